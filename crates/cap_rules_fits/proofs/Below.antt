-- Terms whose variables are below a number.
use Rattle.std.proofs.Common.{◌≡◌, ℕ, ℤ, pos, zero, suc, ◌+◌, ◌<◌, ◌≤◌, List, [], ◌∷◌, map, replicate, length, Bool, true, false, nat_lt, refl, ap, arith, Some}
use Rattle.std.specs.Prelude.{if◌then◌else◌}
use Rattle.std.specs.List.{AllByRecursion}
use Rattle.std.proofs.lemmas.List.Elements.{All-from_recursion}
use Rattle.std.proofs.lemmas.List.{length-map}
use Rattle.std.proofs.lemmas.Option.{slice_get_within}
use Rattle.cap_lin.specs.Linear.{Linear, variable, number, is_zero, put_part, only_left, only_right, merged_from, merged, sums, plus, multiples, times, minus, IsBelow}
use Rattle.cap_lin.specs.Rows.{row_of}
use Rattle.cap_lin.specs.declared.row.Sort.{Sort}
use Rattle.cap_lin.specs.declared.row.Sort.TheVariants.{Int, Perm}
use Rattle.cap_lin.specs.declared.row.Op.{Op}
use Rattle.cap_lin.specs.declared.row.Op.TheVariants.{Eq as Equal, Ne as Unequal, Le as AtMost, Lt as Less, Gt as Greater, Ge as AtLeast}
use Rattle.cap_fm_spec.proofs.Lists.{each-map}
use Rattle.cap_prog.specs.Scopes.{Scope, TermFits}
use Rattle.cap_goal_spec.specs.Terms.{variables_from}
use Rattle.cap_goal_spec.specs.Environments.{bound, unbound, zero_value}
use Rattle.cap_goal_spec.specs.Fits.{NameIsBelow}

-- two coefficients of a variable, as they are merged
abbrev codomain : {A B : Type 0} → (A → B) → Type 0
codomain {A} {B} f = B

abbrev Coefficients : Type 0
Coefficients = codomain only_left

abbrev pub PartsBelow : ℕ → List (ℕ × ℤ) → Type 0
PartsBelow n ps = AllByRecursion (λ p. p.0 < n) ps

abbrev PairsBelow : ℕ → List Coefficients → Type 0
PairsBelow n js = AllByRecursion (λ j. j.variable < n) js

pub below-of : (n : ℕ) (t : Linear) → PartsBelow n t.parts → IsBelow n t
below-of n t h = All-from_recursion (λ p. p.0 < n) t.parts h

-- ---- arithmetic

put-below : (n x : ℕ) (k : ℤ) (ps : List (ℕ × ℤ)) → x < n → PartsBelow n ps → PartsBelow n (put_part x k ps)
put-below n x k ps h q = by_test (is_zero k)
  where
    by_test : (b : Bool) → PartsBelow n (if b then ps else ((x, k) ∷ ps))
    by_test true = q
    by_test false = (h, q)

pub sums-below : (n : ℕ) (js : List Coefficients) → PairsBelow n js → PartsBelow n (sums js)
unfolding sums
sums-below n [] h = tt
sums-below n (j ∷ js) h = put-below n j.variable _ (sums js) h.0 (sums-below n js h.1)

right-below : (n : ℕ) (qs : List (ℕ × ℤ)) → PartsBelow n qs → PairsBelow n (map only_right qs)
right-below n [] h = tt
right-below n (q ∷ qs) h = (h.0, right-below n qs h.1)

from-below : (n : ℕ) (p : ℕ × ℤ) (rest : List (ℕ × ℤ) → List Coefficients) (qs : List (ℕ × ℤ)) → p.0 < n → ((xs : List (ℕ × ℤ)) → PartsBelow n xs → PairsBelow n (rest xs)) → PartsBelow n qs → PairsBelow n (merged_from p rest qs)
from-below n p rest [] h f q = (h, f [] tt)
from-below n p rest (q ∷ qs) h f b = by_tests (nat_lt p.0 q.0) (nat_lt q.0 p.0) (from-below n p rest qs h f b.1)
  where
    by_tests : (s t : Bool) → PairsBelow n (merged_from p rest qs) → PairsBelow n (if s then only_left p ∷ rest (q ∷ qs) else (if t then only_right q ∷ merged_from p rest qs else record { variable = p.0; left = p.1; right = q.1 } ∷ rest qs))
    by_tests true t r = (h, f (q ∷ qs) b)
    by_tests false true r = (b.0, r)
    by_tests false false r = (h, f qs b.1)

pub merged-below : (n : ℕ) (ps qs : List (ℕ × ℤ)) → PartsBelow n ps → PartsBelow n qs → PairsBelow n (merged ps qs)
unfolding merged
merged-below n [] qs h q = right-below n qs q
merged-below n (p ∷ ps) qs h q = from-below n p (merged ps) qs h.0 (λ xs b. merged-below n ps xs h.1 b) q

pub multiples-below : (n : ℕ) (k : ℤ) (ps : List (ℕ × ℤ)) → PartsBelow n ps → PartsBelow n (multiples k ps)
unfolding multiples
multiples-below n k [] h = tt
multiples-below n k (p ∷ ps) h = put-below n p.0 _ (multiples k ps) h.0 (multiples-below n k ps h.1)

pub minus-below : (n : ℕ) (l r : Linear) → PartsBelow n l.parts → PartsBelow n r.parts → PartsBelow n (minus l r).parts
unfolding plus times
minus-below n l r h k = sums-below n _ (merged-below n l.parts _ h (multiples-below n _ r.parts k))

pub row-below : (n : ℕ) (l : Linear) (op : Op) (r : Linear) (s : Sort) → PartsBelow n l.parts → PartsBelow n r.parts → PartsBelow n (row_of l op r s).term.parts
row-below n l Equal r s h k = minus-below n l r h k
row-below n l Unequal r s h k = minus-below n l r h k
row-below n l Less r Int h k = minus-below n l r h k
row-below n l Less r Perm h k = minus-below n l r h k
row-below n l AtMost r s h k = minus-below n l r h k
row-below n l Greater r Int h k = minus-below n r l k h
row-below n l Greater r Perm h k = minus-below n r l k h
row-below n l AtLeast r s h k = minus-below n r l k h

-- ---- terms of a scope

pub term-below : (scope : Scope) (n : ℕ) (s : Sort) (t : Linear) → length scope ≤ n → TermFits scope s t → PartsBelow n t.parts
term-below scope n s t e h = each-map _ _ t.parts h (λ p k. within p.0 (slice_get_within scope p.0 (Some s) k))
  where
    within : (x : ℕ) → x < length scope → x < n
    within x h = omega arith

-- ---- variables

pub variable-below : (n x : ℕ) → x < n → IsBelow n (variable x)
variable-below n x h = below-of n (variable x) (h, tt)

pub number-below : (n : ℕ) (k : ℤ) → IsBelow n (number k)
number-below n k = below-of n (number k) tt

pub variables-below : (n x m : ℕ) → x + m ≤ n → AllByRecursion (IsBelow n) (variables_from x m)
variables-below n x zero h = tt
variables-below n x (suc m) h = (variable-below n x (omega arith), variables-below n (suc x) m (omega arith))

pub bound-below : (n : ℕ) (ts : List Linear) → AllByRecursion (IsBelow n) ts → AllByRecursion (NameIsBelow n) (bound ts)
bound-below n [] h = tt
bound-below n (t ∷ ts) h = (h.0, bound-below n ts h.1)

pub unbound-below : (n m : ℕ) → AllByRecursion (NameIsBelow n) (unbound m)
unbound-below n zero = tt
unbound-below n (suc m) = (tt, unbound-below n m)

pub zeros-below : (n m : ℕ) → AllByRecursion (IsBelow n) (replicate m zero_value)
zeros-below n zero = tt
zeros-below n (suc m) = (number-below n (pos 0), zeros-below n m)

pub variables-length : (x m : ℕ) → length (variables_from x m) ≡ m
variables-length x zero = refl
variables-length x (suc m) = ap suc (variables-length (suc x) m)

pub bound-length : (ts : List Linear) → length (bound ts) ≡ length ts
bound-length ts = length-map ts Some
