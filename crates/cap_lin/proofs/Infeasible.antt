-- Rows without a rational valuation, and infeasible rows, have no valuation.
use Rattle.std.proofs.Common.{◌≡◌, ◌≢◌, ℕ, zero, suc, ℤ, pos, negsuc, ◌*ℤ◌, ◌<ℤ◌, List, [], ◌∷◌, ◌++◌, arith, refl, subst, ap, Some, None, inl, inr}
use Rattle.std.specs.Prelude.{slice_get, unwrap_or}
use Rattle.std.specs.List.{AllByRecursion}
use Rattle.std.proofs.lemmas.Int.{ints}
use Rattle.cap_numbers.proofs.Ring.{expand, product3}
use Rattle.cap_numbers.proofs.Order.{mul-le, mul-lt, sign_of}
use Rattle.cap_lin.specs.Linear.{Linear, put_part, multiples, times, negative, plus_one}
use Rattle.cap_lin.specs.Values.{Valuation, denominator, parts_value, value, amount}
use Rattle.cap_lin.specs.Rows.{row, below_zero, above_zero}
use Rattle.cap_lin.specs.Solves.{value_by_sort, HoldsAs, Holds, IsWholeAt, PartsWhole, FitsSort, Solves, HasNone, HoldsRationally, SolvesRationally, kept, without_ne, SplitsToNone, Infeasible}
use Rattle.cap_lin.specs.declared.row.Row.{Row}
use Rattle.cap_lin.specs.declared.row.Sort.{Sort}
use Rattle.cap_lin.specs.declared.row.Sort.TheVariants.{Int, Perm}
use Rattle.cap_lin.specs.declared.row.Kind.{Kind}
use Rattle.cap_lin.specs.declared.row.Kind.TheVariants.{Le, Lt, Eq, Ne}
use Rattle.cap_lin.proofs.Values.{value-nil, value-cons}
use Rattle.cap_lin.proofs.Rows.{below-holds, above-holds}

-- ---- a term whose variables are whole has the same value both ways
whole-parts : (v : Valuation) (ps : List (ℕ × ℤ)) → PartsWhole v ps → parts_value v.fraction.numerator ps ≡ parts_value v.whole ps *ℤ denominator v.fraction
whole-parts v [] h = rw (value-nil v.fraction.numerator, value-nil v.whole) (omega (arith, ints))
whole-parts v (p ∷ ps) h = rw (value-cons v.fraction.numerator p ps, value-cons v.whole p ps, h.0, whole-parts v ps h.1) (simp expand (omega (arith, ints, product3)))

pub whole-amount : (v : Valuation) (t : Linear) → PartsWhole v t.parts → amount v.fraction t ≡ denominator v.fraction *ℤ value v.whole t
unfolding amount value
whole-amount v t h = rw (whole-parts v t.parts h) (simp expand (omega (arith, ints)))

-- ---- a row that holds, holds over fractions
multiplied : (k : Kind) (d z : ℤ) → (k ≡ Ne → ⊥) → pos 0 <ℤ d → HoldsAs k z → HoldsAs k (d *ℤ z)
multiplied Le d z n p h = let l = mul-le d z (pos 0) (omega (arith, ints)) h in omega (arith, ints)
multiplied Lt d z n p h = let l = mul-lt d z (pos 0) p h in omega (arith, ints)
multiplied Eq d z n p h = rw h (omega (arith, ints))
multiplied Ne d z n p h = absurd (n refl)

as_fraction : (v : Valuation) (k : Kind) (s : Sort) (t : Linear) → (k ≡ Ne → ⊥) → FitsSort v s t → HoldsAs k (value_by_sort s v t) → HoldsAs k (amount v.fraction t)
as_fraction v k Int t n f h = rw (whole-amount v t f) (multiplied k (denominator v.fraction) (value v.whole t) n (omega (arith, ints)) h)
as_fraction v k Perm t n f h = h

keeps : (v : Valuation) (k : Kind) (s : Sort) (t : Linear) (rows : List Row) → FitsSort v s t → HoldsAs k (value_by_sort s v t) → SolvesRationally v.fraction rows → SolvesRationally v.fraction (kept k (row k s t) rows)
keeps v Le s t rows f h r = (as_fraction v Le s t (λ e. cc) f h, r)
keeps v Lt s t rows f h r = (as_fraction v Lt s t (λ e. cc) f h, r)
keeps v Eq s t rows f h r = (as_fraction v Eq s t (λ e. cc) f h, r)
keeps v Ne s t rows f h r = r

rationally : (v : Valuation) (rows : List Row) → AllByRecursion (λ r. FitsSort v r.sort r.term) rows → AllByRecursion (Holds v) rows → SolvesRationally v.fraction (without_ne rows)
rationally v [] f h = tt
rationally v (r ∷ rs) f h = keeps v r.kind r.sort r.term (without_ne rs) f.0 h.0 (rationally v rs f.1 h.1)

pub solves-rationally : (v : Valuation) (rows : List Row) → Solves v rows → SolvesRationally v.fraction (without_ne rows)
solves-rationally v rows s = rationally v rows s.fits s.holds

-- ---- the rows that a split appends
put-whole : (v : Valuation) (x : ℕ) (k : ℤ) (ps : List (ℕ × ℤ)) → IsWholeAt v x → PartsWhole v ps → PartsWhole v (put_part x k ps)
put-whole v x (pos zero) ps h a = a
put-whole v x (pos (suc k)) ps h a = (h, a)
put-whole v x (negsuc k) ps h a = (h, a)

multiple-whole : (v : Valuation) (k : ℤ) (ps : List (ℕ × ℤ)) → PartsWhole v ps → PartsWhole v (multiples k ps)
unfolding multiples
multiple-whole v k [] a = tt
multiple-whole v k (p ∷ ps) a = put-whole v p.0 (k *ℤ p.1) (multiples k ps) a.0 (multiple-whole v k ps a.1)

times-whole : (v : Valuation) (t : Linear) → PartsWhole v t.parts → PartsWhole v (negative t).parts
unfolding times
times-whole v t a = multiple-whole v (negsuc 0) t.parts a

pub negative-fits : (v : Valuation) (s : Sort) (t : Linear) → FitsSort v s t → FitsSort v s (negative t)
negative-fits v Int t f = times-whole v t f
negative-fits v Perm t f = tt

below-rational : (v : Valuation) (s : Sort) (t : Linear) → FitsSort v s t → value_by_sort s v t <ℤ pos 0 → HoldsRationally v.fraction (below_zero s t)
below-rational v Int t f h = as_fraction v Le Int (plus_one t) (λ e. cc) f (below-holds Int v t h)
below-rational v Perm t f h = h

above-rational : (v : Valuation) (s : Sort) (t : Linear) → FitsSort v s t → pos 0 <ℤ value_by_sort s v t → HoldsRationally v.fraction (above_zero s t)
above-rational v Int t f h = as_fraction v Le Int (plus_one (negative t)) (λ e. cc) (negative-fits v Int t f) (above-holds Int v t h)
above-rational v Perm t f h = above-holds Perm v t h

pub push-all : {X : Type 0} (P : X → Type 0) (xs : List X) (x : X) → AllByRecursion P xs → P x → AllByRecursion P (xs ++ x ∷ [])
push-all P [] x a b = (b, tt)
push-all P (y ∷ ys) x a b = (a.0, push-all P ys x a.1 b)

at-place : {X : Type 0} (P : X → Type 0) (xs : List X) (k : ℕ) (x : X) → AllByRecursion P xs → slice_get xs k ≡ Some x → P x
at-place P [] k x a e = absurd (clash e)
  where
    clash : None ≡ Some x → ⊥
    clash e = cc
at-place P (y ∷ ys) zero x a e = subst P (ap (λ o. unwrap_or o y) e) a.0
at-place P (y ∷ ys) (suc k) x a e = at-place P ys k x a.1 e

split-none : (rows : List Row) (place : ℕ) → SplitsToNone rows place → HasNone rows
split-none rows place p v s =
    let f : FitsSort v p.sort p.term = at-place (λ r. FitsSort v r.sort r.term) rows place (row Ne p.sort p.term) s.fits p.is in
    let n : value_by_sort p.sort v p.term ≢ pos 0 = at-place (Holds v) rows place (row Ne p.sort p.term) s.holds p.is in
    let r = solves-rationally v rows s in
    elim (sign_of (value_by_sort p.sort v p.term)) [
      | inl below ↦ p.below v.fraction (push-all _ (without_ne rows) _ r (below-rational v p.sort p.term f below))
      | inr (inl e) ↦ n e
      | inr (inr above) ↦ p.above v.fraction (push-all _ (without_ne rows) _ r (above-rational v p.sort p.term f above))
    ]

pub infeasible-none : (rows : List Row) → Infeasible rows → HasNone rows
infeasible-none rows (inl n) v s = n v.fraction (solves-rationally v rows s)
infeasible-none rows (inr p) v s = split-none rows p.0 p.1 v s
