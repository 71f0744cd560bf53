-- What becomes of a row that arises in an elimination that goes on: it is equal to one that is present, or it is kept,
-- or it is true and has no variables.
use Rattle.std.proofs.Common.{◌≡◌, ℕ, zero, suc, ℤ, pos, negsuc, ◌*ℤ◌, ◌<ℤ◌, List, [], ◌∷◌, arith, refl, subst, Bool, true, false, ◌&&◌}
use Rattle.std.specs.Prelude.{◌||◌, if◌then◌else◌}
use Rattle.std.specs.List.{AllByRecursion}
use Rattle.std.proofs.lemmas.Int.{ints}
use Rattle.cap_lin.specs.Linear.{Linear, same_term, combination}
use Rattle.cap_lin.specs.Laws.Sameness.{same_term-decides}
use Rattle.cap_lin.specs.Steps.{combination_steps}
use Rattle.cap_lin.specs.Values.{RationalValuation, denominator, amount}
use Rattle.cap_lin.specs.Solves.{HoldsAs}
use Rattle.cap_lin.specs.declared.row.Kind.{Kind}
use Rattle.cap_lin.specs.declared.row.Kind.TheVariants.{Le, Lt, Eq, Ne}
use Rattle.cap_lin.proofs.Values.{value-nil}
use Rattle.cap_fm_spec.specs.Runs.{Origin, given, combined, Entry, entry, Stage, Found, going, contradiction, done, results, ◌>>=◌}
use Rattle.cap_fm_spec.specs.Rows.{same_kind, same_row, is_present, count, are_some, has_parts, is_false, keep, fail, look, arise, arise_given, arise_combined, combine}
use Rattle.cap_fm_spec.proofs.Runs.{goes-on}
use Rattle.cap_fm_spec.proofs.Valuations.{times-holds}

-- a row of an elimination under a valuation
abbrev pub HoldsEntry : RationalValuation → Entry → Type 0
HoldsEntry q e = HoldsAs e.kind (amount q e.term)

abbrev pub AllHold : RationalValuation → List Entry → Type 0
AllHold q rows = AllByRecursion (HoldsEntry q) rows

-- ---- equal rows

pub both-true : (a b : Bool) → (a && b) ≡ true → (a ≡ true) × (b ≡ true)
both-true true b e = (refl, e)
both-true false b e = cc

pub same-kind : (k l : Kind) → same_kind k l ≡ true → k ≡ l
same-kind Le Le e = refl
same-kind Le Lt e = cc
same-kind Le Eq e = cc
same-kind Le Ne e = cc
same-kind Lt Le e = cc
same-kind Lt Lt e = refl
same-kind Lt Eq e = cc
same-kind Lt Ne e = cc
same-kind Eq Le e = cc
same-kind Eq Lt e = cc
same-kind Eq Eq e = refl
same-kind Eq Ne e = cc
same-kind Ne Le e = cc
same-kind Ne Lt e = cc
same-kind Ne Eq e = cc
same-kind Ne Ne e = refl

-- a row that is equal to another, of which something holds
record Equal (P : Entry → Type 0) (t : Linear) (k : Kind) : Type 0 where
  row : Entry
  term : row.term ≡ t
  kind : row.kind ≡ k
  has : P row

present-equal : (P : Entry → Type 0) (t : Linear) (k : Kind) (rows : List Entry) → is_present t k rows ≡ true → AllByRecursion P rows → Equal P t k
present-equal P t k [] e h = absurd (clash e)
  where
    clash : false ≡ true → ⊥
    clash e = cc
present-equal P t k (r ∷ rows) e h = by_test (same_row t k r.term r.kind) refl e (λ d. present-equal P t k rows d h.1)
  where
    by_test : (b : Bool) → same_row t k r.term r.kind ≡ b → (b || is_present t k rows) ≡ true → (is_present t k rows ≡ true → Equal P t k) → Equal P t k
    by_test true d e f = let a = both-true (same_kind k r.kind) (same_term t r.term) d in
        let i = same-kind k r.kind a.0 in
        let j = (same_term-decides t r.term).0 a.1 in
        record { row = r; term = cc; kind = cc; has = h.0 }
    by_test false d e f = f e

-- ---- the ways of a row

pub data Arises (present : List Entry) (t : Linear) (k : Kind) : List Entry → Type 0 where
  equal : is_present t k present ≡ true → Arises present t k []
  kept : (i : ℕ) → has_parts t ≡ true → Arises present t k (entry t k i ∷ [])
  true_alone : has_parts t ≡ false → is_false k t.constant ≡ false → Arises present t k []

given-by : (P : List Entry → Type 0) (xs ys : List Entry) → ◌≡◌ {A = Found (List Entry)} (going xs) (going ys) → P xs → P ys
given-by P xs ys e p = let d : xs ≡ ys = cc in subst P d p

fails : (P : Type 0) (e : Entry) (ys : List Entry) → ◌≡◌ {A = Found (List Entry)} (contradiction e) (going ys) → P
fails P e ys d = absurd (cc)

look-arises : (present : List Entry) (t : Linear) (k : Kind) (o : Origin) (s : Stage) (new : List Entry) → (look t k o s).found ≡ going new → Arises present t k new
look-arises present t k o s new e = by_parts (has_parts t) refl e
  where
    by_falsity : (b : Bool) → has_parts t ≡ false → is_false k t.constant ≡ b → ((if b then fail t k o else done []) s).found ≡ going new → Arises present t k new
    by_falsity true p d e = fails _ _ _ e
    by_falsity false p d e = given-by (Arises present t k) _ _ e (true_alone p d)

    by_parts : (b : Bool) → has_parts t ≡ b → ((if b then keep t k o else (if is_false k t.constant then fail t k o else done [])) s).found ≡ going new → Arises present t k new
    by_parts true d e = given-by (Arises present t k) _ _ e (kept _ d)
    by_parts false d e = by_falsity (is_false k t.constant) d refl e

arise-arises : (present : List Entry) (t : Linear) (k : Kind) (o : Origin) (s : Stage) (new : List Entry) → (arise present t k o s).found ≡ going new → Arises present t k new
arise-arises present t k o s new e = by_present (is_present t k present) refl e
  where
    by_present : (b : Bool) → is_present t k present ≡ b → ((if b then done [] else look t k o) s).found ≡ going new → Arises present t k new
    by_present true d e = given-by (Arises present t k) _ _ e (equal d)
    by_present false d e = look-arises present t k o s new e

pub given-arises : (present : List Entry) (t : Linear) (k : Kind) (i : ℕ) (s : Stage) (new : List Entry) → (arise_given present t k i s).found ≡ going new → Arises present t k new
given-arises present t k i s new e = let g = goes-on (count t k) (λ u. arise present t k (given i)) s new e in arise-arises present t k (given i) _ new g.second

combined-arises : (present : List Entry) (t : Linear) (k : Kind) (o : Origin) (s : Stage) (new : List Entry) → (arise_combined present t k o s).found ≡ going new → Arises present t k new
combined-arises present t k o s new e = by_parts (has_parts t) e
  where
    by_parts : (b : Bool) → ((if b then (count t k >>= (λ u. arise present t k o)) else look t k o) s).found ≡ going new → Arises present t k new
    by_parts true e = let g = goes-on (count t k) (λ u. arise present t k o) s new e in arise-arises present t k o _ new g.second
    by_parts false e = look-arises present t k o s new e

pub combine-arises : (present : List Entry) (a : ℤ) (p : Entry) (b : ℤ) (q : Entry) (k : Kind) (s : Stage) (new : List Entry) → (combine present a p b q k s).found ≡ going new → Arises present (combination a p.term b q.term) k new
combine-arises present a p b q k s new e =
    let g = goes-on (results (combination_steps a p.term b q.term)) (λ u. arise_combined present (combination a p.term b q.term) k (combined a p.origin b q.origin)) s new e in
    combined-arises present (combination a p.term b q.term) k _ _ new g.second

-- ---- a row that arises is kept as it is, and holds where those that are present and new do

-- what holds of each row that is kept of a term and a kind
abbrev pub Kept : (Entry → Type 0) → Linear → Kind → Type 0
Kept P t k = (i : ℕ) → has_parts t ≡ true → P (entry t k i)

pub arises-keeps : (P : Entry → Type 0) (present : List Entry) (t : Linear) (k : Kind) (new : List Entry) → Arises present t k new → Kept P t k → AllByRecursion P new
arises-keeps P present t k new (equal e) m = tt
arises-keeps P present t k new (kept i e) m = (m i e, tt)
arises-keeps P present t k new (true_alone e d) m = tt

true-holds : (k : Kind) (d c : ℤ) → pos 0 <ℤ d → is_false k c ≡ false → HoldsAs k (d *ℤ c)
true-holds k d c h e = times-holds k d c h (by_kind k c e)
  where
    by_kind : (k : Kind) (c : ℤ) → is_false k c ≡ false → HoldsAs k c
    by_kind Le (pos zero) e = omega (arith, ints)
    by_kind Le (pos (suc n)) e = cc
    by_kind Le (negsuc n) e = omega (arith, ints)
    by_kind Lt (pos n) e = cc
    by_kind Lt (negsuc n) e = omega (arith, ints)
    by_kind Eq (pos zero) e = refl
    by_kind Eq (pos (suc n)) e = cc
    by_kind Eq (negsuc n) e = cc
    by_kind Ne (pos zero) e = cc
    by_kind Ne (pos (suc n)) e = λ d. cc
    by_kind Ne (negsuc n) e = λ d. cc

pub no-parts : (ps : List (ℕ × ℤ)) → are_some ps ≡ false → ps ≡ []
no-parts [] e = refl
no-parts (p ∷ ps) e = cc

constant-amount : (q : RationalValuation) (t : Linear) → has_parts t ≡ false → denominator q *ℤ t.constant ≡ amount q t
unfolding amount
constant-amount q t e = rw (no-parts t.parts e, value-nil q.numerator) (omega (arith, ints))

pub arises-holds : (q : RationalValuation) (P : Entry → Type 0) (present : List Entry) (t : Linear) (k : Kind) (new : List Entry) → Arises present t k new → AllByRecursion P present → AllHold q new → ((e : Entry) → e.term ≡ t → P e → HoldsEntry q e) → HoldsAs k (amount q t)
arises-holds q P present t k new (equal e) p h f =
    let r = present-equal P t k present e p in
    let a = f r.row r.term r.has in
    subst (λ l. HoldsAs l (amount q t)) r.kind (subst (λ u. HoldsAs r.row.kind (amount q u)) r.term a)
arises-holds q P present t k new (kept i e) p h f = h.0
arises-holds q P present t k new (true_alone e d) p h f = subst (HoldsAs k) (constant-amount q t e) (true-holds k (denominator q) t.constant (omega (arith, ints)) d)
