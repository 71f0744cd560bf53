-- The whole of a leaf: its rows are there to be added up, and its parts follow one another.
use Rattle.std.proofs.Common.{◌≡◌, ℕ, zero, suc, ℤ, pos, negsuc, ◌+◌, ◌<◌, ◌≤◌, List, [], ◌∷◌, length, map, get_or, arith, inl, inr, refl, subst, sym, ap, ◌∙◌, Bool, true, false, None, Result}
use Rattle.std.specs.Prelude.{if◌then◌else◌, ◌==◌, MatchResult}
use Rattle.std.specs.List.{AllByRecursion}
use mathlib.Core.List.{reverse_aux}
use Rattle.std.proofs.lemmas.Bool.{cases_lt}
use Rattle.std.proofs.lemmas.Int.{ints}
use Rattle.std.proofs.lemmas.List.{get_or_default}
use Rattle.std.proofs.lemmas.Result.{MatchResult-weaker}
use Rattle.cap_lin.specs.Linear.{Linear, AscendFrom, coefficient, number, variable, negative, times, combination, IsBelow}
use Rattle.cap_lin.specs.Steps.{first_wide}
use Rattle.cap_lin.specs.declared.row.Row.{Row}
use Rattle.cap_lin.proofs.Merge.{no_part}
use Rattle.cap_lin.proofs.Ascend.{multiple-ascends}
use Rattle.cap_lin.proofs.Places.{coefficient-other, coefficient-nil, at_place}
use Rattle.cap_lin.proofs.Values.{coefficient-multiples}
use Rattle.cap_lin.proofs.Combinations.{combination-coefficient, combination-ascends}
use Rattle.cap_fm_spec.specs.Runs.{Origin, given, combined, Entry}
use Rattle.cap_fm_spec.specs.Leaf.{multipliers_of, multipliers, way_steps, is_turned, turned, turned_steps, check_steps, leaf, leaf_steps}
use Rattle.cap_fm_elimination.specs.declared.entry.Origin as entry
use Rattle.cap_fm_elimination.specs.declared.entry.Origin.TheVariants.{Given, Combined}
use Rattle.cap_fm_elimination.specs.declared.error.SolveError.{SolveError}
use Rattle.cap_fm_elimination.specs.Answers.{ExplainsSteps}
use Rattle.cap_fm_elimination.specs.Views.{origin_view, history_view, IsOrigin, IsHistoryFrom, IsHistory}
use Rattle.cap_fm_elimination.specs.Way.{RowsBelow, AreEarlier}
use Rattle.cap_fm_elimination.proofs.LeavesSteps.{earlier-error, later-error, both-narrow}

-- ---- variables below a number

-- the parts ascend, and the variables from a number on are not among them
record IsShort (n : ℕ) (t : Linear) : Type 0 where
  ascends : AscendFrom 0 t.parts
  lacks : (x : ℕ) → n ≤ x → coefficient x t.parts ≡ pos 0

number-short : (n : ℕ) (k : ℤ) → IsShort n (number k)
number-short n k = record { ascends = tt; lacks = λ x h. coefficient-nil x }

variable-short : (n i : ℕ) → i < n → IsShort n (variable i)
variable-short n i l = record {
  ascends = (omega arith, λ e. cc, tt);
  lacks = λ x h. coefficient-other x (i, pos 1) [] (λ e. absurd (omega arith)) ∙ coefficient-nil x;
}

combination-short : (n : ℕ) (a : ℤ) (s : Linear) (b : ℤ) (t : Linear) → IsShort n s → IsShort n t → IsShort n (combination a s b t)
combination-short n a s b t g h = record {
  ascends = combination-ascends a s b t g.ascends h.ascends;
  lacks = λ x l. combination-coefficient x a s b t ∙ rw (g.lacks x l, h.lacks x l) (omega (arith, ints));
}

negative-short : (n : ℕ) (t : Linear) → IsShort n t → IsShort n (negative t)
unfolding times
negative-short n t h = record {
  ascends = multiple-ascends 0 (negsuc 0) t.parts h.ascends;
  lacks = λ x l. coefficient-multiples x (negsuc 0) t.parts ∙ rw (h.lacks x l) (omega (arith, ints));
}

turned-short : (n : ℕ) (b : Bool) (t : Linear) → IsShort n t → IsShort n (turned b t)
turned-short n true t h = negative-short n t h
turned-short n false t h = h

part-at : (low : ℕ) (ps : List (ℕ × ℤ)) (k : ℕ) → AscendFrom low ps → k < length ps → (get_or ps k no_part).1 ≡ pos 0 → ⊥
part-at low [] k a l e = absurd (omega arith)
part-at low (p ∷ ps) zero a l e = a.1 e
part-at low (p ∷ ps) (suc k) a l e = part-at (p.0 + 1) ps k a.2 (omega arith) e

short-below : (n : ℕ) (t : Linear) → IsShort n t → IsBelow n t
short-below n t h k d l =
    let e : get_or t.parts k d ≡ get_or t.parts k no_part = get_or_default t.parts k d no_part l in
    rw e (elim (cases_lt (get_or t.parts k no_part).0 n) [
      | inl b ↦ b
      | inr b ↦ absurd (part-at 0 t.parts k h.ascends l (sym (at_place (get_or t.parts k no_part).0 t.parts k h.ascends l refl) ∙ h.lacks _ b))
    ])

-- ---- the multipliers are of input rows

abbrev IsInput : ℕ → Origin → Type 0
IsInput n (given i) = i < n
IsInput n (combined a p b q) = Unit {0}

abbrev AreInputs : ℕ → List Origin → Type 0
AreInputs n os = AllByRecursion (IsInput n) os

of-short : (n : ℕ) (o : Origin) (terms : ℕ → Linear) → IsInput n o → ((i : ℕ) → IsShort n (terms i)) → IsShort n (multipliers_of o terms)
of-short n (given i) terms h t = variable-short n i h
of-short n (combined a p b q) terms h t = combination-short n a (terms p) b (terms q) (t p) (t q)

multipliers-short : (n : ℕ) (older : List Origin) → AreInputs n older → (i : ℕ) → IsShort n (multipliers older i)
unfolding multipliers
multipliers-short n [] h i = number-short n (pos 0)
multipliers-short n (o ∷ older) h i = by_test (i == length older) (of-short n o (multipliers older) h.0 (multipliers-short n older h.1)) (multipliers-short n older h.1 i)
  where
    by_test : (b : Bool) → IsShort n (multipliers_of o (multipliers older)) → IsShort n (multipliers older i) → IsShort n (if b then multipliers_of o (multipliers older) else multipliers older i)
    by_test true g k = g
    by_test false g k = k

one-input : (n place : ℕ) (o : entry.Origin) → IsOrigin n place o → IsInput n (origin_view o)
one-input n place (Given i) h = h
one-input n place (Combined a p b q) h = tt

inputs : (n place : ℕ) (history : List entry.Origin) (older : List Origin) → IsHistoryFrom n place history → AreInputs n older → AreInputs n (reverse_aux (map origin_view history) older)
inputs n place [] older h k = k
inputs n place (o ∷ os) older h k = inputs n (place + 1) os (origin_view o ∷ older) h.1 (one-input n place o h.0, k)

leaf-below : (n : ℕ) (history : List entry.Origin) (e : Entry) → IsHistory n history → IsBelow n (leaf (history_view history) e)
leaf-below n history e h = short-below n _ (turned-short n (is_turned e.kind e.term.constant) (multipliers (history_view history) e.origin) (multipliers-short n (history_view history) (inputs n 0 history [] h tt) e.origin))

-- ---- rows are combinations of earlier ones

one-earlier : (n place : ℕ) (o : entry.Origin) → IsOrigin n place o → RowsBelow place (origin_view o)
one-earlier n place (Given i) h = tt
one-earlier n place (Combined a p b q) h = h

pub earlier : (n place : ℕ) (history : List entry.Origin) → IsHistoryFrom n place history → AreEarlier place (map origin_view history)
unfolding AreEarlier
earlier n place [] h = tt
earlier n place (o ∷ os) h = (one-earlier n place o h.0, earlier n (place + 1) os h.1)

-- ---- one part after the other

-- the leaf as it was made: with this constant, these multipliers, and these after the turn
pub record IsMade (history : List Origin) (e : Entry) (c : ℤ) (t u : Linear) : Type 0 where
  pub constant : c ≡ e.term.constant
  pub multipliers_are : t ≡ multipliers history e.origin
  pub turned_are : u ≡ turned (is_turned e.kind c) t

made-leaf : (history : List Origin) (e : Entry) (c : ℤ) (t u : Linear) → IsMade history e c t u → u ≡ leaf history e
made-leaf history e c t u m = rw (m.turned_are, m.constant, m.multipliers_are) refl

pub made-below : (n : ℕ) (history : List entry.Origin) (e : Entry) (c : ℤ) (t u : Linear) → IsHistory n history → IsMade (history_view history) e c t u → IsBelow n u
made-below n history e c t u h m = subst (IsBelow n) (sym (made-leaf (history_view history) e c t u m)) (leaf-below n history e h)

pub way-fails : (rows : List Row) (history : List Origin) (e : Entry) (error : SolveError) → ExplainsSteps error (way_steps history (λ i. i == e.origin)) → ExplainsSteps error (leaf_steps rows history e)
way-fails rows history e error h = earlier-error error _ _ h

pub turn-fails : (rows : List Row) (history : List Origin) (e : Entry) (error : SolveError) (c : ℤ) (t : Linear) → first_wide (way_steps history (λ i. i == e.origin)) ≡ None → c ≡ e.term.constant → t ≡ multipliers history e.origin → ExplainsSteps error (turned_steps (is_turned e.kind c) t) → ExplainsSteps error (leaf_steps rows history e)
turn-fails rows history e error c t n p q h =
    let x : ExplainsSteps error (turned_steps (is_turned e.kind e.term.constant) (multipliers history e.origin)) = rw (← p, ← q) h in
    later-error error _ _ n (earlier-error error _ _ x)

pub leaf-answers : {T : Type 0} (r : Result T SolveError) (view : T → List (ℕ × ℤ)) (rows : List Row) (history : List Origin) (e : Entry) (c : ℤ) (t u : Linear) → first_wide (way_steps history (λ i. i == e.origin)) ≡ None → first_wide (turned_steps (is_turned e.kind c) t) ≡ None → IsMade history e c t u → MatchResult r (λ x. (first_wide (check_steps rows (number (pos 0)) u.parts) ≡ None) × (view x ≡ u.parts)) (λ error. ExplainsSteps error (check_steps rows (number (pos 0)) u.parts)) → MatchResult r (λ x. (first_wide (leaf_steps rows history e) ≡ None) × (view x ≡ (leaf history e).parts)) (λ error. ExplainsSteps error (leaf_steps rows history e))
leaf-answers r view rows history e c t u n m i h =
    let f : u.parts ≡ (leaf history e).parts = ap (λ (l : Linear). l.parts) (made-leaf history e c t u i) in
    let k : first_wide (turned_steps (is_turned e.kind e.term.constant) (multipliers history e.origin)) ≡ None = rw (← i.constant, ← i.multipliers_are) m in
    MatchResult-weaker r h (λ x a. (both-narrow _ _ n (both-narrow _ _ k (rw (← f) a.0)), a.1 ∙ f)) (λ error a. later-error error _ _ n (later-error error _ _ k (rw (← f) a)))
