-- Each row of an elimination is the sum of the input rows by the multipliers that its history gives, and so is the
-- false row that it ends in.
use Rattle.std.proofs.Common.{◌≡◌, ℕ, ℤ, pos, ◌<ℤ◌, ◌+◌, ◌<◌, ◌≤◌, List, [], ◌∷◌, ◌++◌, length, arith, refl, sym, ◌∙◌, subst, Bool, true, false, Some}
use Rattle.std.specs.Prelude.{◌==◌, if◌then◌else◌, slice_get}
use Rattle.std.specs.List.{AllByRecursion}
use Rattle.std.proofs.lemmas.Bool.Decides.{nat_tests}
use Rattle.cap_lin.specs.Linear.{Linear, AscendFrom, combination}
use Rattle.cap_lin.specs.Steps.{Step, combination_steps}
use Rattle.cap_lin.specs.declared.row.Row.{Row}
use Rattle.cap_lin.specs.declared.row.Kind.{Kind}
use Rattle.cap_lin.specs.declared.row.Kind.TheVariants.{Ne}
use Rattle.cap_lin.proofs.Combinations.{combination-ascends}
use Rattle.cap_fm_spec.specs.Events.{counted}
use Rattle.cap_fm_spec.specs.Runs.{Origin, given, combined, Entry, entry, Stage, Found, going, contradiction, Run, Elimination, done, results, go_on, ◌>>=◌}
use Rattle.cap_fm_spec.specs.Rows.{has_arisen, count, is_present, has_parts, is_false, keep, fail, look, arise, arise_given, arise_combined, combine}
use Rattle.cap_fm_spec.specs.Leaf.{multipliers_of, multipliers}
use Rattle.cap_fm_spec.specs.Sums.{IsSumOf}
use Rattle.cap_fm_spec.proofs.Arising.{no-parts}
use Rattle.cap_fm_spec.proofs.Lists.{each-map}
use Rattle.cap_fm_spec.proofs.Sums.{IsFactor, Joins, sum-both, sum-input}

-- ---- a history that grows keeps the multipliers of its rows

pub record Extends (old new : List Origin) : Type 0 where
  pub longer : length old ≤ length new
  pub same : (i : ℕ) → i < length old → multipliers new i ≡ multipliers old i

pub extends-same : (h : List Origin) → Extends h h
extends-same h = record { longer = omega arith; same = λ i l. refl }

pub extends-then : (a b c : List Origin) → Extends a b → Extends b c → Extends a c
extends-then a b c e d = record { longer = let x = e.longer in let y = d.longer in omega arith; same = λ i l. let x = e.longer in d.same i (omega arith) ∙ e.same i l }

multipliers-new : (o : Origin) (older : List Origin) → multipliers (o ∷ older) (length older) ≡ multipliers_of o (multipliers older)
unfolding multipliers
multipliers-new o older = let t : (length older == length older) ≡ true = grind (arith, nat_tests) in rw t refl

multipliers-old : (o : Origin) (older : List Origin) (i : ℕ) → i < length older → multipliers (o ∷ older) i ≡ multipliers older i
unfolding multipliers
multipliers-old o older i l = let t : (i == length older) ≡ false = grind (arith, nat_tests) in rw t refl

extends-one : (o : Origin) (older : List Origin) → Extends older (o ∷ older)
extends-one o older = record { longer = omega arith; same = λ i l. multipliers-old o older i l }

-- ---- a row that is made of the input rows

-- by multipliers
pub record IsMadeBy (rows : List Row) (t : Linear) (k : Kind) (m : Linear) : Type 0 where
  pub sum : IsSumOf rows t k m
  pub multipliers_ascend : AscendFrom 0 m.parts
  pub ascends : AscendFrom 0 t.parts
  pub kind : k ≡ Ne → ⊥

-- by those that the history gives
pub record IsMade (rows : List Row) (history : List Origin) (e : Entry) : Type 0 where
  pub known : e.origin < length history
  pub made : IsMadeBy rows e.term e.kind (multipliers history e.origin)

abbrev pub AllMade : List Row → List Origin → List Entry → Type 0
AllMade rows history es = AllByRecursion (IsMade rows history) es

pub made-later : (rows : List Row) (old new : List Origin) (e : Entry) → Extends old new → IsMade rows old e → IsMade rows new e
made-later rows old new e x m = record { known = let l = x.longer in let k = m.known in omega arith; made = subst (IsMadeBy rows e.term e.kind) (sym (x.same e.origin m.known)) m.made }

pub all-later : (rows : List Row) (old new : List Origin) (es : List Entry) → Extends old new → AllMade rows old es → AllMade rows new es
all-later rows old new es x a = each-map _ _ es a (λ e m. made-later rows old new e x m)

-- ---- a run extends the history; something holds of what it goes on to, and a false row that it ends in is made

pub record IsFalseRow (rows : List Row) (history : List Origin) (e : Entry) : Type 0 where
  pub made : IsMade rows history e
  pub no_parts : e.term.parts ≡ []
  pub wrong : is_false e.kind e.term.constant ≡ true

abbrev pub IsFound : {A : Type 0} → List Row → (List Origin → A → Type 0) → List Origin → Found A → Type 0
IsFound rows P history (going x) = P history x
IsFound rows P history (contradiction e) = IsFalseRow rows history e

pub record Keeps {A : Type 0} (rows : List Row) (P : List Origin → A → Type 0) (old : List Origin) (r : Run A) : Type 0 where
  pub extends : Extends old r.stage.history
  pub found : IsFound rows P r.stage.history r.found

pub keeps-done : {A : Type 0} (rows : List Row) (P : List Origin → A → Type 0) (x : A) (s : Stage) → P s.history x → Keeps rows P s.history (done x s)
keeps-done rows P x s p = record { extends = extends-same s.history; found = p }

pub keeps-then : {A B : Type 0} (rows : List Row) (P : List Origin → A → Type 0) (Q : List Origin → B → Type 0) (m : Elimination A) (f : A → Elimination B) (s : Stage) → Keeps rows P s.history (m s) → ((x : A) (t : Stage) → Extends s.history t.history → P t.history x → Keeps rows Q t.history (f x t)) → Keeps rows Q s.history ((m >>= f) s)
keeps-then {A = A} {B = B} rows P Q m f s k g = by_found (m s).found k.found
  where
    by_found : (d : Found A) → IsFound rows P (m s).stage.history d → Keeps rows Q s.history (go_on (m s).events (m s).stage d f)
    by_found (going x) p =
        let n = g x (m s).stage k.extends p in
        record { extends = extends-then _ _ _ k.extends n.extends; found = n.found }
    by_found (contradiction e) p = record { extends = k.extends; found = p }

-- what leaves the history as it is
abbrev pub IsStill : List Origin → List Origin → Unit {0} → Type 0
IsStill old new u = old ≡ new

pub keeps-results : (rows : List Row) (steps : List Step) (s : Stage) → Keeps rows (IsStill s.history) s.history (results steps s)
keeps-results rows steps s = record { extends = extends-same s.history; found = refl }

keeps-count : (rows : List Row) (t : Linear) (k : Kind) (s : Stage) → Keeps rows (IsStill s.history) s.history (count t k s)
keeps-count rows t k s = by_test (has_arisen t k s.arisen)
  where
    by_test : (b : Bool) → Keeps rows (IsStill s.history) s.history (if b then done tt s else record { events = counted (length s.arisen + 1) ∷ []; stage = record s { arisen = s.arisen ++ ((t, k) ∷ []) }; found = going tt })
    by_test true = record { extends = extends-same s.history; found = refl }
    by_test false = record { extends = extends-same s.history; found = refl }

-- ---- a row that arises

-- by its origin
abbrev IsMadeFrom : List Row → List Origin → Linear → Kind → Origin → Type 0
IsMadeFrom rows history t k o = IsMadeBy rows t k (multipliers_of o (multipliers history))

entry-made : (rows : List Row) (history : List Origin) (t : Linear) (k : Kind) (o : Origin) → IsMadeFrom rows history t k o → IsMade rows (o ∷ history) (entry t k (length history))
entry-made rows history t k o m = record { known = omega arith; made = subst (IsMadeBy rows t k) (sym (multipliers-new o history)) m }

keeps-look : (rows : List Row) (t : Linear) (k : Kind) (o : Origin) (s : Stage) → IsMadeFrom rows s.history t k o → Keeps rows (AllMade rows) s.history (look t k o s)
keeps-look rows t k o s m = by_parts (has_parts t) refl
  where
    by_falsity : (b : Bool) → has_parts t ≡ false → is_false k t.constant ≡ b → Keeps rows (AllMade rows) s.history ((if b then fail t k o else done []) s)
    by_falsity true p d = record { extends = extends-one o s.history; found = record { made = entry-made rows s.history t k o m; no_parts = no-parts t.parts p; wrong = d } }
    by_falsity false p d = keeps-done rows (AllMade rows) [] s tt

    by_parts : (b : Bool) → has_parts t ≡ b → Keeps rows (AllMade rows) s.history ((if b then keep t k o else (if is_false k t.constant then fail t k o else done [])) s)
    by_parts true d = record { extends = extends-one o s.history; found = (entry-made rows s.history t k o m, tt) }
    by_parts false d = by_falsity (is_false k t.constant) d refl

keeps-arise : (rows : List Row) (present : List Entry) (t : Linear) (k : Kind) (o : Origin) (s : Stage) → IsMadeFrom rows s.history t k o → Keeps rows (AllMade rows) s.history (arise present t k o s)
keeps-arise rows present t k o s m = by_present (is_present t k present)
  where
    by_present : (b : Bool) → Keeps rows (AllMade rows) s.history ((if b then done [] else look t k o) s)
    by_present true = keeps-done rows (AllMade rows) [] s tt
    by_present false = keeps-look rows t k o s m

from-same : (rows : List Row) (old new : List Origin) (t : Linear) (k : Kind) (o : Origin) → old ≡ new → IsMadeFrom rows old t k o → IsMadeFrom rows new t k o
from-same rows old new t k o e m = subst (λ h. IsMadeFrom rows h t k o) e m

keeps-counted : (rows : List Row) (present : List Entry) (t : Linear) (k : Kind) (o : Origin) (s : Stage) → IsMadeFrom rows s.history t k o → Keeps rows (AllMade rows) s.history ((count t k >>= (λ u. arise present t k o)) s)
keeps-counted rows present t k o s m = keeps-then rows (IsStill s.history) (AllMade rows) (count t k) (λ u. arise present t k o) s (keeps-count rows t k s) (λ x n e d. keeps-arise rows present t k o n (from-same rows s.history n.history t k o d m))

pub keeps-given : (rows : List Row) (present : List Entry) (i : ℕ) (r : Row) (s : Stage) → slice_get rows i ≡ Some r → (r.kind ≡ Ne → ⊥) → AscendFrom 0 r.term.parts → Keeps rows (AllMade rows) s.history (arise_given present r.term r.kind i s)
keeps-given rows present i r s e n a = keeps-counted rows present r.term r.kind (given i) s (record { sum = sum-input rows i r e n; multipliers_ascend = (omega arith, (λ z. cc), tt); ascends = a; kind = n })

keeps-combined : (rows : List Row) (present : List Entry) (t : Linear) (k : Kind) (o : Origin) (s : Stage) → IsMadeFrom rows s.history t k o → Keeps rows (AllMade rows) s.history (arise_combined present t k o s)
keeps-combined rows present t k o s m = by_parts (has_parts t)
  where
    by_parts : (b : Bool) → Keeps rows (AllMade rows) s.history ((if b then (count t k >>= (λ u. arise present t k o)) else look t k o) s)
    by_parts true = keeps-counted rows present t k o s m
    by_parts false = keeps-look rows t k o s m

-- ---- a combination

combination-made : (rows : List Row) (t u m n : Linear) (k l j : Kind) (a b : ℤ) → Joins k l j → (j ≡ Ne → ⊥) → pos 0 <ℤ a → IsFactor b l → IsMadeBy rows t k m → IsMadeBy rows u l n → IsMadeBy rows (combination a t b u) j (combination a m b n)
combination-made rows t u m n k l j a b h w x f p q = record {
  sum = sum-both rows t u k l j m n a b h x f p.sum q.sum;
  multipliers_ascend = combination-ascends a m b n p.multipliers_ascend q.multipliers_ascend;
  ascends = combination-ascends a t b u p.ascends q.ascends;
  kind = w;
}

pub keeps-combine : (rows : List Row) (present : List Entry) (a : ℤ) (p : Entry) (b : ℤ) (q : Entry) (j : Kind) (s : Stage) → Joins p.kind q.kind j → (j ≡ Ne → ⊥) → pos 0 <ℤ a → IsFactor b q.kind → IsMade rows s.history p → IsMade rows s.history q → Keeps rows (AllMade rows) s.history (combine present a p b q j s)
keeps-combine rows present a p b q j s h w x f m n =
    let c : IsMadeFrom rows s.history (combination a p.term b q.term) j (combined a p.origin b q.origin) = combination-made rows p.term q.term _ _ p.kind q.kind j a b h w x f m.made n.made in
    keeps-then rows (IsStill s.history) (AllMade rows) (results (combination_steps a p.term b q.term)) (λ u. arise_combined present (combination a p.term b q.term) j (combined a p.origin b q.origin)) s (keeps-results rows (combination_steps a p.term b q.term) s) (λ y v e d. keeps-combined rows present (combination a p.term b q.term) j (combined a p.origin b q.origin) v (from-same rows s.history v.history (combination a p.term b q.term) j (combined a p.origin b q.origin) d c))
