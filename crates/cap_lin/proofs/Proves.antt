-- Rows that none of a row's negations can join prove the row.
use Rattle.std.proofs.Common.{ℤ, pos, negsuc, zero, suc, List, [], ◌∷◌, ◌++◌, arith, refl, ◌⊎◌, inl, inr}
use Rattle.std.specs.List.{AllByRecursion}
use Rattle.std.proofs.lemmas.Int.{ints}
use Rattle.cap_numbers.proofs.Order.{sign_of}
use Rattle.cap_lin.specs.Linear.{Linear}
use Rattle.cap_lin.specs.Values.{Valuation}
use Rattle.cap_lin.specs.Rows.{below_zero, above_zero, negations_as, negations}
use Rattle.cap_lin.specs.Solves.{value_by_sort, HoldsAs, Holds, HoldsSome, FitsSort, Solves, HasNone, Proves}
use Rattle.cap_lin.specs.declared.row.Row.{Row}
use Rattle.cap_lin.specs.declared.row.Sort.{Sort}
use Rattle.cap_lin.specs.declared.row.Sort.TheVariants.{Int, Perm}
use Rattle.cap_lin.specs.declared.row.Kind.{Kind}
use Rattle.cap_lin.specs.declared.row.Kind.TheVariants.{Le, Lt, Eq, Ne}
use Rattle.cap_lin.proofs.Rows.{negations-cover}
use Rattle.cap_lin.proofs.Infeasible.{push-all, negative-fits}

pub solves-push : (v : Valuation) (rows : List Row) (n : Row) → Solves v rows → FitsSort v n.sort n.term → Holds v n → Solves v (rows ++ n ∷ [])
solves-push v rows n s f h = record { fits = push-all (λ r. FitsSort v r.sort r.term) rows n s.fits f; holds = push-all (Holds v) rows n s.holds h }

holds_or : (k : Kind) (z : ℤ) → HoldsAs k z ⊎ (¬ HoldsAs k z)
holds_or Le z = elim (sign_of z) [
  | inl b ↦ inl (omega (arith, ints))
  | inr (inl e) ↦ inl (omega (arith, ints))
  | inr (inr a) ↦ inr (λ h. absurd (omega (arith, ints)))
]
holds_or Lt z = elim (sign_of z) [
  | inl b ↦ inl b
  | inr (inl e) ↦ inr (λ h. absurd (omega (arith, ints)))
  | inr (inr a) ↦ inr (λ h. absurd (omega (arith, ints)))
]
holds_or Eq (pos zero) = inl refl
holds_or Eq (pos (suc n)) = inr (λ e. cc)
holds_or Eq (negsuc n) = inr (λ e. cc)
holds_or Ne (pos zero) = inr (λ n. n refl)
holds_or Ne (pos (suc n)) = inl (λ e. cc)
holds_or Ne (negsuc n) = inl (λ e. cc)

below-fits : (v : Valuation) (s : Sort) (t : Linear) → FitsSort v s t → FitsSort v (below_zero s t).sort (below_zero s t).term
below-fits v Int t f = f
below-fits v Perm t f = tt

above-fits : (v : Valuation) (s : Sort) (t : Linear) → FitsSort v s t → FitsSort v (above_zero s t).sort (above_zero s t).term
above-fits v s t f = below-fits v s _ (negative-fits v s t f)

negations-fit : (v : Valuation) (k : Kind) (s : Sort) (t : Linear) → FitsSort v s t → AllByRecursion (λ n. FitsSort v n.sort n.term) (negations_as k s t)
negations-fit v Le s t f = (above-fits v s t f, tt)
negations-fit v Lt s t f = (negative-fits v s t f, tt)
negations-fit v Eq s t f = (below-fits v s t f, (above-fits v s t f, tt))
negations-fit v Ne s t f = (f, tt)

none-holds : (v : Valuation) (rows ns : List Row) → AllByRecursion (λ n. FitsSort v n.sort n.term) ns → AllByRecursion (λ n. HasNone (rows ++ n ∷ [])) ns → Solves v rows → HoldsSome v ns → ⊥
none-holds v rows [] f a s h = h
none-holds v rows (n ∷ ns) f a s (inl h) = a.0 v (solves-push v rows n s f.0 h)
none-holds v rows (n ∷ ns) f a s (inr h) = none-holds v rows ns f.1 a.1 s h

pub negations-prove : (rows : List Row) (r : Row) → AllByRecursion (λ n. HasNone (rows ++ n ∷ [])) (negations r) → Proves rows r
negations-prove rows r a v s f = elim (holds_or r.kind (value_by_sort r.sort v r.term)) [
  | inl h ↦ h
  | inr n ↦ absurd (none-holds v rows (negations r) (negations-fit v r.kind r.sort r.term f) a s ((negations-cover v r.kind r.sort r.term).0 n))
]
