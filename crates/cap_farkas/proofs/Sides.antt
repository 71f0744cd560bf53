-- The row that a split appends: its numbers, and when they stay within 128 bits.
use Rattle.std.proofs.Common.{◌≡◌, ℕ, ℤ, pos, negsuc, neg_ℤ, ◌+ℤ◌, ◌-ℤ◌, ◌*ℤ◌, [], ◌∷◌, ◌++◌, arith, refl, subst, ap, sym, ◌∙◌, Option, Some, None, inl, inr, IsTrue, ◌↔◌, true, false, FitsSigned}
use Rattle.std.specs.Option.{SomeIff, IsSome}
use Rattle.std.proofs.lemmas.Int.{ints}
use Rattle.std.proofs.Math.Dec.{lit<}
use mir.Syntax.{w128}
use Rattle.cap_lin.specs.Linear.{Linear, AscendFrom, coefficient, multiples, times, negative}
use Rattle.cap_lin.specs.Steps.{sum_of, product_of, first_wide, multiples_steps, times_steps, negative_steps}
use Rattle.cap_lin.specs.Rows.{below_zero, below_zero_steps, above_zero_steps}
use Rattle.cap_lin.specs.declared.row.Sort.{Sort}
use Rattle.cap_lin.specs.declared.row.Sort.TheVariants.{Int, Perm}
use Rattle.cap_lin.proofs.Results.{first_wide-nil, first-narrow, narrow-left, narrow-right, sum-narrow, product-narrow, sum-fits, product-fits}
use Rattle.cap_lin.proofs.Multiples.{each-fits}
use Rattle.cap_lin.proofs.Places.{coefficient-or}
use Rattle.cap_lin.proofs.Values.{coefficient-multiples}
use Rattle.cap_farkas.specs.Farkas.{constant_of, coefficient_of}
use Rattle.cap_farkas.specs.System.{below_constant, below_steps, side_row, side_steps, side_constant, side_constant_steps}
use Rattle.cap_farkas.specs.declared.system.Side.{Side}
use Rattle.cap_farkas.specs.declared.system.Side.TheVariants.{Below, Above}

pub minus-one : (z : ℤ) → negsuc 0 *ℤ z ≡ neg_ℤ z
minus-one z = omega (arith, ints)

-- ---- a constant that fits exactly where results are narrow
pub by_steps : (o : Option ℤ) (P Q : Type 0) (v w : ℤ) → (P → Q) → (Q → P) → v ≡ w → SomeIff o P v → SomeIff o Q w
by_steps None P Q v w f g e n = λ q. n (g q)
by_steps (Some x) P Q v w f g e h = (f h.0, h.1 ∙ e)

pub one_more : (o : Option ℤ) (a c : ℤ) → a ≡ c → SomeIff o (FitsSigned w128 (a +ℤ pos 1)) (a +ℤ pos 1) → SomeIff o (first_wide (sum_of c (pos 1) ∷ []) ≡ None) (c +ℤ pos 1)
one_more o a c e h = by_steps o _ _ _ _ (λ f. rw (← e) (sum-fits a (pos 1) [] f ∙ first_wide-nil)) (λ n. rw e (sum-narrow c (pos 1) [] n)) (ap (λ z. z +ℤ pos 1) e) h

pub no_negative : (s : Sort) (a c : ℤ) → a ≡ c → (FitsSigned w128 (neg_ℤ a) → ⊥) → first_wide (side_constant_steps Above s c) ≡ None → ⊥
no_negative s a c e n w = n (rw e (subst (FitsSigned w128) (minus-one c) (product-narrow (negsuc 0) c (below_steps s (negsuc 0 *ℤ c)) w)))

pub negative_first : (s : Sort) (o : Option ℤ) (a b c : ℤ) → a ≡ c → FitsSigned w128 (neg_ℤ a) → b ≡ neg_ℤ a → SomeIff o (first_wide (below_steps s b) ≡ None) (below_constant s b) → SomeIff o (first_wide (side_constant_steps Above s c) ≡ None) (side_constant Above s c)
negative_first s o a b c e f d h =
    let k : b ≡ negsuc 0 *ℤ c = d ∙ ap neg_ℤ e ∙ sym (minus-one c) in
    let g : FitsSigned w128 (negsuc 0 *ℤ c) = subst (FitsSigned w128) (ap neg_ℤ e ∙ sym (minus-one c)) f in
    let same = product-fits (negsuc 0) c (below_steps s (negsuc 0 *ℤ c)) g in
    by_steps o _ _ _ _ (λ n. same ∙ (rw k at n)) (λ n. rw k (sym same ∙ n)) (ap (below_constant s) k) h

-- ---- the constant's results, and those of all parts
times_steps-is : (k : ℤ) (t : Linear) → times_steps k t ≡ (product_of k t.constant ∷ []) ++ multiples_steps k t.parts
unfolding times_steps
times_steps-is k t = refl

times-constant : (k : ℤ) (t : Linear) → (times k t).constant ≡ k *ℤ t.constant
unfolding times
times-constant k t = refl

times-parts : (k : ℤ) (t : Linear) → (times k t).parts ≡ multiples k t.parts
unfolding times
times-parts k t = refl

below_steps-is : (s : Sort) (t : Linear) → below_zero_steps s t ≡ below_steps s t.constant
below_steps-is Int t = refl
below_steps-is Perm t = refl

above_steps-is : (s : Sort) (t : Linear) → above_zero_steps s t ≡ negative_steps t ++ below_steps s (negsuc 0 *ℤ t.constant)
unfolding above_zero_steps
above_steps-is s t = rw (below_steps-is s (negative t), times-constant (negsuc 0) t) refl

above-multiples : (s : Sort) (t : Linear) → first_wide (above_zero_steps s t) ≡ None → first_wide (multiples_steps (negsuc 0) t.parts) ≡ None
above-multiples s t n =
    let m = narrow-left (negative_steps t) _ (rw (above_steps-is s t) at n) in
    narrow-right (product_of (negsuc 0) t.constant ∷ []) _ (rw (times_steps-is (negsuc 0) t) at m)

above-constant : (s : Sort) (t : Linear) → first_wide (above_zero_steps s t) ≡ None → first_wide (side_constant_steps Above s t.constant) ≡ None
above-constant s t n =
    let w = rw (above_steps-is s t) at n in
    let m = narrow-left (negative_steps t) _ w in
    let a = narrow-left (product_of (negsuc 0) t.constant ∷ []) _ (rw (times_steps-is (negsuc 0) t) at m) in
    first-narrow _ _ a ∙ narrow-right (negative_steps t) _ w

above-both : (s : Sort) (t : Linear) → first_wide (side_constant_steps Above s t.constant) ≡ None → first_wide (multiples_steps (negsuc 0) t.parts) ≡ None → first_wide (above_zero_steps s t) ≡ None
above-both s t n m =
    let a = narrow-left (product_of (negsuc 0) t.constant ∷ []) _ n in
    let b = narrow-right (product_of (negsuc 0) t.constant ∷ []) _ n in
    let c : first_wide (negative_steps t) ≡ None = rw (times_steps-is (negsuc 0) t) (first-narrow _ _ a ∙ m) in
    rw (above_steps-is s t) (first-narrow _ _ c ∙ b)

pub constant-narrow : (d : Side) (s : Sort) (t : Linear) → first_wide (side_steps d s t) ≡ None → first_wide (side_constant_steps d s t.constant) ≡ None
constant-narrow Below s t n = rw (← below_steps-is s t) n
constant-narrow Above s t n = above-constant s t n

pub not_narrow : (d : Side) (s : Sort) (t : Linear) → (first_wide (side_constant_steps d s t.constant) ≡ None → ⊥) → IsTrue false ↔ (first_wide (side_steps d s t) ≡ None)
not_narrow d s t n = (λ e. cc, λ w. absurd (n (constant-narrow d s t w)))

pub below_narrow : (s : Sort) (t : Linear) → first_wide (side_constant_steps Below s t.constant) ≡ None → IsTrue true ↔ (first_wide (side_steps Below s t) ≡ None)
below_narrow s t n = (λ e. rw (below_steps-is s t) n, λ w. refl)

pub above_narrow : (W : Type 0) (s : Sort) (t : Linear) → first_wide (side_constant_steps Above s t.constant) ≡ None → (W ↔ (first_wide (multiples_steps (negsuc 0) t.parts) ≡ None)) → W ↔ (first_wide (side_steps Above s t) ≡ None)
above_narrow W s t n h = (λ w. above-both s t n (h.0 w), λ a. h.1 (above-multiples s t a))

-- ---- the numbers of the row
pub constant-side : (d : Side) (s : Sort) (t : Linear) → side_constant d s t.constant ≡ constant_of (side_row d s t).term
constant-side Below Int t = refl
constant-side Below Perm t = refl
constant-side Above Int t = ap (λ z. z +ℤ pos 1) (sym (times-constant (negsuc 0) t))
constant-side Above Perm t = sym (times-constant (negsuc 0) t)

below-coefficient : (x : ℕ) (s : Sort) (t : Linear) → coefficient_of x (below_zero s t).term ≡ coefficient_of x t
below-coefficient x Int t = refl
below-coefficient x Perm t = refl

negative-coefficient : (x : ℕ) (t : Linear) → coefficient_of x (negative t) ≡ negsuc 0 *ℤ coefficient_of x t
negative-coefficient x t = ap (coefficient x) (times-parts (negsuc 0) t) ∙ coefficient-multiples x (negsuc 0) t.parts

pub below_side : (x : ℕ) (s : Sort) (t : Linear) → coefficient_of x (side_row Below s t).term ≡ coefficient_of x t
below_side x s t = below-coefficient x s t

pub above_side : (x : ℕ) (s : Sort) (t : Linear) → coefficient_of x (side_row Above s t).term ≡ neg_ℤ (coefficient_of x t)
above_side x s t = below-coefficient x s (negative t) ∙ negative-coefficient x t ∙ minus-one _

pub side-zero : (d : Side) (x : ℕ) (s : Sort) (t : Linear) → coefficient_of x t ≡ pos 0 → coefficient_of x (side_row d s t).term ≡ pos 0
side-zero Below x s t z = below_side x s t ∙ z
side-zero Above x s t z = above_side x s t ∙ ap neg_ℤ z

zero-side : (d : Side) (x : ℕ) (s : Sort) (t : Linear) → coefficient_of x (side_row d s t).term ≡ pos 0 → coefficient_of x t ≡ pos 0
zero-side Below x s t z = sym (below_side x s t) ∙ z
zero-side Above x s t z = let e : neg_ℤ (coefficient_of x t) ≡ pos 0 = sym (above_side x s t) ∙ z in omega (arith, ints, e)

pub side-nonzero : (d : Side) (x : ℕ) (s : Sort) (t : Linear) → (coefficient_of x t ≡ pos 0 → ⊥) → coefficient_of x (side_row d s t).term ≡ pos 0 → ⊥
side-nonzero d x s t n z = n (zero-side d x s t z)

zero-fits : FitsSigned w128 (neg_ℤ (pos 0))
zero-fits = record { sfits = lit< tt }

-- the negative of a coefficient fits, where those of all parts do
pub negative-fits : (x : ℕ) (s : Sort) (t : Linear) → AscendFrom 0 t.parts → first_wide (side_steps Above s t) ≡ None → FitsSigned w128 (neg_ℤ (coefficient_of x t))
negative-fits x s t a n = elim (coefficient-or x t.parts a) [
  | inl z ↦ rw z zero-fits
  | inr p ↦ rw p.1.1 (subst (FitsSigned w128) (minus-one _) (each-fits (negsuc 0) t.parts p.0 (above-multiples s t n) p.1.0))
]

pub some_by : (o : Option ℤ) (P : Type 0) (v : ℤ) → SomeIff o P v → P → IsSome o
some_by None P v n p = absurd (n p)
some_by (Some x) P v h p = refl

pub value_by : (o : Option ℤ) (x : ℤ) (P : Type 0) (v : ℤ) → o ≡ Some x → SomeIff o P v → x ≡ v
value_by None x P v e h = absurd (cc)
value_by (Some y) x P v e h = let d : y ≡ x = cc in sym d ∙ h.1

pub zero-minus : (z : ℤ) → pos 0 -ℤ z ≡ neg_ℤ z
zero-minus z = omega (arith, ints)
