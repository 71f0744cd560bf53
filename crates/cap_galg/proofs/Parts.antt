-- Amounts as elements.
use Rattle.std.proofs.Common.{◌≡◌, ◌≢◌, ℕ, ◌*◌, ◌≤◌, ◌<◌, arith, refl, sym, ap, ◌∙◌, subst, inl, inr, false, Option, Some, Result, Ok}
use Rattle.std.specs.Prelude.{nat_le, ◌==◌}
use Rattle.cap_galg_spec.specs.declared.fraction.Fraction.{Fraction}
use Rattle.cap_galg_spec.specs.declared.error.GuardError.{GuardError}
use Rattle.cap_galg_spec.specs.Fractions.{IsAmount, IsShare}
use Rattle.cap_galg_spec.specs.Elements.{nothing, share, amount, compose, is_wide, at_most}
use Rattle.cap_galg_spec.specs.Answers.{IsComposition}
use Rattle.cap_galg_spec.specs.Laws.Fractions.{product-positive}
use Rattle.cap_galg_spec.specs.Laws.Composition.{true_or_false, le-true, le-false, true-eq, eq-true, false-eq, sound-composed}
pub use Rattle.cap_galg_atoms.proofs.Counts.{back}

pub eq-false : (a b : ℕ) → a ≢ b → (a == b) ≡ false
eq-false a b n = elim (true_or_false (a == b)) [ inl e ↦ absurd (n (true-eq a b e)) | inr f ↦ f ]

pub amount-zero : (f : Fraction) → f.num ≡ 0 → amount f ≡ nothing
amount-zero f e = rw (eq-true f.num 0 e) refl

pub amount-share : (f : Fraction) → f.num ≢ 0 → amount f ≡ share f
amount-share f n = rw (eq-false f.num 0 n) refl

pub share-of : (f : Fraction) → IsAmount f → f.num ≢ 0 → IsShare f
share-of f h n = record { amount = h; positive = omega arith }

pub at_most-amount : (f g : Fraction) → IsAmount f → IsAmount g → nat_le (f.num * g.den) (g.num * f.den) ≡ at_most (amount f) (amount g)
at_most-amount f g h k = elim (true_or_false (f.num == 0)) [
  | inl e ↦
      let z : f.num ≡ 0 = true-eq _ _ e in
      let t : f.num * g.den ≤ g.num * f.den = omega (arith, ap (λ w. w * g.den) z) in
      le-true _ _ t ∙ sym (ap (λ x. at_most x (amount g)) (amount-zero f z))
  | inr e ↦
      let n = false-eq f.num 0 e in
      elim (true_or_false (g.num == 0)) [
        | inl d ↦
            let z : g.num ≡ 0 = true-eq _ _ d in
            let p = product-positive f.num g.den (omega arith) k.lowest.positive in
            let t : g.num * f.den < f.num * g.den = omega (arith, ap (λ w. w * f.den) z) in
            le-false _ _ t ∙ sym (ap (λ x. at_most x (amount g)) (amount-share f n) ∙ ap (at_most (share f)) (amount-zero g z))
        | inr d ↦ sym (ap (λ x. at_most x (amount g)) (amount-share f n) ∙ ap (at_most (share f)) (amount-share g (false-eq g.num 0 d)))
      ]
]

-- the sum of two amounts above 0
pub sum-share : (f g h : Fraction) (r : Result (Option Fraction) GuardError) → IsShare f → IsShare g → IsComposition share (share f) (share g) r → r ≡ Ok (Some h) → IsShare h
sum-share f g h r p q c e =
    let d = subst (IsComposition share (share f) (share g)) e c in
    sound-composed (share f) (share g) (share h) p q d.0

pub sum-amount : (f g h : Fraction) (r : Result (Option Fraction) GuardError) → IsAmount f → IsAmount g → f.num ≢ 0 → g.num ≢ 0 → IsComposition share (share f) (share g) r → r ≡ Ok (Some h)
    → (compose (amount f) (amount g) ≡ Some (amount h)) × (is_wide (amount f) (amount g) ≡ false)
sum-amount f g h r p q m n c e =
    let d = subst (IsComposition share (share f) (share g)) e c in
    let s = sum-share f g h r (share-of f p m) (share-of g q n) c e in
    let k : h.num ≢ 0 = (let t = s.positive in omega arith) in
    rw (amount-share f m, amount-share g n, amount-share h k) d
