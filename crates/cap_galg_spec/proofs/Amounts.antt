-- A fraction is an amount where its divisor is 1.
use Rattle.std.proofs.Common.{ℕ, ◌<◌, ◌≤◌}
use Rattle.std.specs.Prelude.{nat_eq, IsTrue}
use Rattle.std.specs.Int.{IsGcd}
use Rattle.cap_galg_spec.specs.declared.fraction.Fraction.{Fraction}
use Rattle.cap_galg_spec.specs.Fractions.{IsAmount}
use Rattle.cap_galg_spec.specs.Laws.Fractions.{amount-from, from-lowest}
use Rattle.cap_galg_spec.specs.Laws.Composition.{true-eq, eq-true}

pub amount-test : (f : Fraction) (g : ℕ) → 0 < f.den → f.num ≤ f.den → IsGcd f.num f.den g → (IsTrue (nat_eq g 1) → IsAmount f) × (IsAmount f → IsTrue (nat_eq g 1))
amount-test f g h l is = (λ t. amount-from f g h l is (true-eq g 1 t), λ a. eq-true g 1 (from-lowest f g is a.lowest))
