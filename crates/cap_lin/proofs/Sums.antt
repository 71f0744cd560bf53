-- The loop that adds two lists of parts: each lemma is one way through it.
use Rattle.std.proofs.Common.{◌≡◌, ℕ, ℤ, ◌+ℤ◌, List, [], ◌∷◌, ◌++◌, arith, append_assoc, refl, sym, ◌∙◌, Option, Some, None}
use Rattle.std.specs.Prelude.{slice_get}
use Rattle.std.proofs.lemmas.Grind.{common_steps}
use Rattle.cap_lin.specs.Linear.{merged, parts_behind, put_part, sums}
use Rattle.cap_lin.specs.Steps.{Step, sum_of, first_wide, sums_steps}
use Rattle.cap_lin.specs.Exact.{Explains}
use Rattle.cap_lin.specs.declared.error.LinError.{LinError}
use Rattle.cap_lin.specs.declared.term.Pair.{Pair}
use Rattle.cap_lin.proofs.Results.{first_wide-nil, first-narrow, explains_same, explains_first, put-append}
use Rattle.cap_lin.proofs.Merge.{next, merged-end}

steps-cons : (j : Pair) (js : List Pair) → sums_steps (j ∷ js) ≡ (sum_of j.left j.right ∷ []) ++ sums_steps js
unfolding sums_steps
steps-cons j js = refl

steps-nil : sums_steps [] ≡ []
unfolding sums_steps
steps-nil = refl

sums-nil : sums [] ≡ []
unfolding sums
sums-nil = refl

sums-cons : (j : Pair) (js : List Pair) → sums (j ∷ js) ≡ put_part j.variable (j.left +ℤ j.right) [] ++ sums js
unfolding sums
sums-cons j js = put-append j.variable (j.left +ℤ j.right) (sums js)

pub stops : (ps qs : List (ℕ × ℤ)) (j : Pair) (e : LinError) (all : List Step) (a b : ℤ) → slice_get (merged ps qs) 0 ≡ Some j → a ≡ j.left → b ≡ j.right → Explains e (sum_of a b ∷ []) → first_wide (sums_steps (merged ps qs)) ≡ first_wide all → Explains e all
stops ps qs j e all a b s d f x w =
    let n = (next ps qs j s).rest in
    let y : Explains e (sum_of j.left j.right ∷ []) = rw (← d, ← f) x in
    let z : Explains e (sums_steps (merged ps qs)) = rw (n, steps-cons) (explains_first e _ _ y) in
    explains_same e all _ (sym w) z

pub goes_on : (ps qs : List (ℕ × ℤ)) (j : Pair) (whole : Option (ℤ × ℤ)) (a b : ℤ) → slice_get (merged ps qs) 0 ≡ Some j → a ≡ j.left → b ≡ j.right → first_wide (sum_of a b ∷ []) ≡ None → first_wide (sums_steps (merged ps qs)) ≡ whole → first_wide (sums_steps (merged (parts_behind j.variable ps) (parts_behind j.variable qs))) ≡ whole
goes_on ps qs j whole a b s d f x w =
    let n = (next ps qs j s).rest in
    let y : first_wide (sum_of j.left j.right ∷ []) ≡ None = rw (← d, ← f) x in
    sym (first-narrow _ _ y) ∙ (rw (n, steps-cons) at w)

pub adds : (ps qs : List (ℕ × ℤ)) (j : Pair) (out out' whole : List (ℕ × ℤ)) (a b r : ℤ) → slice_get (merged ps qs) 0 ≡ Some j → a ≡ j.left → b ≡ j.right → r ≡ a +ℤ b → out' ≡ out ++ put_part j.variable r [] → out ++ sums (merged ps qs) ≡ whole → out' ++ sums (merged (parts_behind j.variable ps) (parts_behind j.variable qs)) ≡ whole
adds ps qs j out out' whole a b r s d f e o w =
    let n = (next ps qs j s).rest in
    let q : out' ≡ out ++ put_part j.variable (j.left +ℤ j.right) [] = rw (← d, ← f, ← e) o in
    rw (q, append_assoc) (rw (n, sums-cons) at w)

pub narrow : (ps qs : List (ℕ × ℤ)) (whole : Option (ℤ × ℤ)) → slice_get (merged ps qs) 0 ≡ None → first_wide (sums_steps (merged ps qs)) ≡ whole → whole ≡ None
narrow ps qs whole s w = let e = merged-end ps qs s in sym (rw (e, steps-nil, first_wide-nil) at w)

pub done : (ps qs : List (ℕ × ℤ)) (out whole : List (ℕ × ℤ)) → slice_get (merged ps qs) 0 ≡ None → out ++ sums (merged ps qs) ≡ whole → out ≡ whole
done ps qs out whole s w = let e = merged-end ps qs s in let v : out ++ [] ≡ whole = rw (e, sums-nil) at w in grind (arith, common_steps)
