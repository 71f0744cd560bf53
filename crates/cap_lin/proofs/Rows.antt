-- The results on the way to the rows of comparisons and to negations, and what those rows mean.
use Rattle.std.proofs.Common.{◌≡◌, ℤ, pos, negsuc, zero, suc, ◌+ℤ◌, ◌*ℤ◌, ◌≤ℤ◌, ◌<ℤ◌, arith, refl, ap, ◌∙◌, None, ◌⊎◌, inl, inr, ◌↔◌}
use Rattle.std.specs.Prelude.{Result}
use Rattle.std.proofs.lemmas.Int.{ints}
use Rattle.cap_numbers.proofs.Order.{sign_of}
use Rattle.cap_lin.specs.Linear.{Linear, minus, negative, plus_one}
use Rattle.cap_lin.specs.Steps.{first_wide, minus_steps, negative_steps}
use Rattle.cap_lin.specs.Exact.{Explains, IsExact}
use Rattle.cap_lin.specs.Values.{Valuation, value, amount}
use Rattle.cap_lin.specs.Rows.{row, below_zero, below_zero_steps, above_zero, above_zero_steps, less_steps, row_of, negations_as}
use Rattle.cap_lin.specs.Solves.{value_by_sort, HoldsAs, Holds, HoldsSome, Compares}
use Rattle.cap_lin.specs.declared.error.LinError.{LinError}
use Rattle.cap_lin.specs.declared.row.Row.{Row}
use Rattle.cap_lin.specs.declared.row.Sort.{Sort}
use Rattle.cap_lin.specs.declared.row.Sort.TheVariants.{Int, Perm}
use Rattle.cap_lin.specs.declared.row.Kind.{Kind}
use Rattle.cap_lin.specs.declared.row.Kind.TheVariants.{Le, Lt, Eq, Ne}
use Rattle.cap_lin.specs.declared.row.Op.{Op}
use Rattle.cap_lin.specs.declared.row.Op.TheVariants.{Le as AtMost, Lt as Less, Eq as Equal, Ne as Unequal, Gt as Greater, Ge as AtLeast}
use Rattle.cap_lin.proofs.Results.{explains_first, exact_after}
use Rattle.cap_lin.proofs.Values.{value-plus, value-times, amount-plus, amount-times}

-- ---- the results

pub above-first : (s : Sort) (t : Linear) (e : LinError) → Explains e (negative_steps t) → Explains e (above_zero_steps s t)
unfolding above_zero_steps
above-first s t e h = explains_first e _ _ h

pub above-after : (r : Result Row LinError) (s : Sort) (t : Linear) → first_wide (negative_steps t) ≡ None → IsExact r (below_zero_steps s (negative t)) (above_zero s t) → IsExact r (above_zero_steps s t) (above_zero s t)
unfolding above_zero_steps
above-after r s t n h = exact_after r _ _ _ n h

pub less-first : (l r : Linear) (s : Sort) (e : LinError) → Explains e (minus_steps l r) → Explains e (less_steps l r s)
unfolding less_steps
less-first l r s e h = explains_first e _ _ h

pub less-after : (a : Result Row LinError) (l r : Linear) (s : Sort) → first_wide (minus_steps l r) ≡ None → IsExact a (below_zero_steps s (minus l r)) (below_zero s (minus l r)) → IsExact a (less_steps l r s) (below_zero s (minus l r))
unfolding less_steps
less-after a l r s n h = exact_after a _ _ _ n h

-- ---- the meaning

number-minus : (s : Sort) (v : Valuation) (a b : Linear) → value_by_sort s v (minus a b) ≡ value_by_sort s v a +ℤ negsuc 0 *ℤ value_by_sort s v b
number-minus Int v a b = value-plus v.whole a (negative b) ∙ ap (λ z. value v.whole a +ℤ z) (value-times v.whole (negsuc 0) b)
number-minus Perm v a b = amount-plus v.fraction a (negative b) ∙ ap (λ z. amount v.fraction a +ℤ z) (amount-times v.fraction (negsuc 0) b)

pub number-negative : (s : Sort) (v : Valuation) (t : Linear) → value_by_sort s v (negative t) ≡ negsuc 0 *ℤ value_by_sort s v t
number-negative Int v t = value-times v.whole (negsuc 0) t
number-negative Perm v t = amount-times v.fraction (negsuc 0) t

value-plus_one : (v : Valuation) (t : Linear) → value v.whole (plus_one t) ≡ value v.whole t +ℤ pos 1
unfolding value
value-plus_one v t = omega (arith, ints)

pub below-holds : (s : Sort) (v : Valuation) (t : Linear) → value_by_sort s v t <ℤ pos 0 → Holds v (below_zero s t)
below-holds Int v t h = let e = value-plus_one v t in omega (arith, ints, e, h)
below-holds Perm v t h = h

pub below-means : (s : Sort) (v : Valuation) (t : Linear) → Holds v (below_zero s t) → value_by_sort s v t <ℤ pos 0
below-means Int v t h = let e = value-plus_one v t in omega (arith, ints, e, h)
below-means Perm v t h = h

pub above-holds : (s : Sort) (v : Valuation) (t : Linear) → pos 0 <ℤ value_by_sort s v t → Holds v (above_zero s t)
above-holds s v t h = let e = number-negative s v t in below-holds s v (negative t) (omega (arith, ints, e, h))

pub above-means : (s : Sort) (v : Valuation) (t : Linear) → Holds v (above_zero s t) → pos 0 <ℤ value_by_sort s v t
above-means s v t h = let e = number-negative s v t in let b = below-means s v (negative t) h in omega (arith, ints, e, b)

-- a row of this kind, of a difference, by the two numbers
eq-minus : (d a b : ℤ) → d ≡ a +ℤ negsuc 0 *ℤ b → (d ≡ pos 0) ↔ (a ≡ b)
eq-minus d a b e = (λ h. omega (arith, ints, e, h), λ h. omega (arith, ints, e, h))

le-minus : (d a b : ℤ) → d ≡ a +ℤ negsuc 0 *ℤ b → (d ≤ℤ pos 0) ↔ (a ≤ℤ b)
le-minus d a b e = (λ h. omega (arith, ints, e, h), λ h. omega (arith, ints, e, h))

lt-minus : (d a b : ℤ) → d ≡ a +ℤ negsuc 0 *ℤ b → (d <ℤ pos 0) ↔ (a <ℤ b)
lt-minus d a b e = (λ h. omega (arith, ints, e, h), λ h. omega (arith, ints, e, h))

row-holds : (v : Valuation) (k : Kind) (s : Sort) (t : Linear) → Holds v (row k s t) ≡ HoldsAs k (value_by_sort s v t)
row-holds v k s t = refl

less-means : (v : Valuation) (l r : Linear) (s : Sort) → Holds v (below_zero s (minus l r)) ↔ (value_by_sort s v l <ℤ value_by_sort s v r)
less-means v l r s =
    let m = lt-minus _ _ _ (number-minus s v l r) in
    (λ h. m.0 (below-means s v (minus l r) h), λ h. below-holds s v (minus l r) (m.1 h))

-- the row of a comparison holds exactly where the comparison does
pub row_of-means : (v : Valuation) (l : Linear) (o : Op) (r : Linear) (s : Sort) → Holds v (row_of l o r s) ↔ Compares v l o r s
row_of-means v l Equal r s = eq-minus _ _ _ (number-minus s v l r)
row_of-means v l Unequal r s =
    let m = eq-minus _ _ _ (number-minus s v l r) in
    (λ h e. h (m.1 e), λ h e. h (m.0 e))
row_of-means v l Less r s = less-means v l r s
row_of-means v l AtMost r s = le-minus _ _ _ (number-minus s v l r)
row_of-means v l Greater r s = less-means v r l s
row_of-means v l AtLeast r s = le-minus _ _ _ (number-minus s v r l)

lone : {A : Type 0} → A ⊎ ⊥ → A
lone (inl a) = a
lone (inr e) = absurd e

-- one of the negations holds exactly where the row doesn't
pub negations-cover : (v : Valuation) (k : Kind) (s : Sort) (t : Linear) → (¬ Holds v (row k s t)) ↔ HoldsSome v (negations_as k s t)
negations-cover v Le s t =
    (λ n. inl (above-holds s v t (positive (value_by_sort s v t) n)), λ h y. let p = above-means s v t (lone h) in absurd (omega (arith, ints, p, y)))
  where
    positive : (z : ℤ) → (z ≤ℤ pos 0 → ⊥) → pos 0 <ℤ z
    positive z n = elim (sign_of z) [
      | inl below ↦ absurd (n (omega (arith, ints)))
      | inr (inl e) ↦ absurd (n (omega (arith, ints)))
      | inr (inr above) ↦ above
    ]
negations-cover v Lt s t = (λ n. inl (holds s t (not_below (value_by_sort s v t) n)), λ h y. let p = means s t (lone h) in absurd (omega (arith, ints, p, y)))
  where
    not_below : (z : ℤ) → (z <ℤ pos 0 → ⊥) → pos 0 ≤ℤ z
    not_below z n = elim (sign_of z) [
      | inl below ↦ absurd (n below)
      | inr (inl e) ↦ omega (arith, ints)
      | inr (inr above) ↦ omega (arith, ints)
    ]

    holds : (s : Sort) (t : Linear) → pos 0 ≤ℤ value_by_sort s v t → value_by_sort s v (negative t) ≤ℤ pos 0
    holds s t h = let e = number-negative s v t in omega (arith, ints, e, h)

    means : (s : Sort) (t : Linear) → value_by_sort s v (negative t) ≤ℤ pos 0 → pos 0 ≤ℤ value_by_sort s v t
    means s t h = let e = number-negative s v t in omega (arith, ints, e, h)
negations-cover v Eq s t = (λ n. differs n, λ h y. meets h y)
  where
    differs : (value_by_sort s v t ≡ pos 0 → ⊥) → HoldsSome v (negations_as Eq s t)
    differs n = elim (sign_of (value_by_sort s v t)) [
      | inl below ↦ inl (below-holds s v t below)
      | inr (inl e) ↦ absurd (n e)
      | inr (inr above) ↦ inr (inl (above-holds s v t above))
    ]

    meets : HoldsSome v (negations_as Eq s t) → value_by_sort s v t ≡ pos 0 → ⊥
    meets (inl b) y = let p = below-means s v t b in absurd (omega (arith, ints, p, y))
    meets (inr b) y = let p = above-means s v t (lone b) in absurd (omega (arith, ints, p, y))
negations-cover v Ne s t = (λ n. inl (is_zero (value_by_sort s v t) n), λ h y. y (lone h))
  where
    is_zero : (z : ℤ) → ((z ≡ pos 0 → ⊥) → ⊥) → z ≡ pos 0
    is_zero (pos zero) n = refl
    is_zero (pos (suc k)) n = absurd (n (λ e. cc))
    is_zero (negsuc k) n = absurd (n (λ e. cc))
