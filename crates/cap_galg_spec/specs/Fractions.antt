-- Fractions in lowest terms, and their sums.
use Rattle.std.specs.Prelude.{◌≡◌, ℕ, zero, suc, ◌+◌, ◌*◌, ◌/◌, ◌%◌, ◌<◌, ◌≤◌}
use Rattle.std.specs.Int.{◌∣◌}
use Rattle.cap_galg_spec.specs.declared.fraction.Fraction.{Fraction}

abbrev pub fraction : ℕ → ℕ → Fraction
fraction n d = record { num = n; den = d }

-- the denominator isn't 0, and only 1 divides both numbers
pub record IsLowest (f : Fraction) : Type 0 where
  pub positive : 0 < f.den
  pub coprime : (k : ℕ) → k ∣ f.num → k ∣ f.den → k ≡ 1

-- from 0 to 1, in lowest terms
pub record IsAmount (f : Fraction) : Type 0 where
  pub lowest : IsLowest f
  pub most : f.num ≤ f.den

-- above 0 and at most 1, in lowest terms
pub record IsShare (f : Fraction) : Type 0 where
  pub amount : IsAmount f
  pub positive : 0 < f.num

-- the greatest common divisor of two numbers, the second of which is below the fuel
abbrev pub gcd_within : ℕ → ℕ → ℕ → ℕ
gcd_within zero a b = a
gcd_within (suc fuel) a zero = a
gcd_within (suc fuel) a (suc b) = gcd_within fuel (suc b) (a % suc b)

unfoldable pub gcd : ℕ → ℕ → ℕ
gcd a b = gcd_within (suc b) a b

-- n / d in lowest terms
unfoldable pub lowest : ℕ → ℕ → Fraction
lowest n d = fraction (n / gcd n d) (d / gcd n d)

-- the numerator of a sum over the product of the denominators
abbrev pub crossed : Fraction → Fraction → ℕ
crossed f g = f.num * g.den + g.num * f.den

abbrev pub plus : Fraction → Fraction → Fraction
plus f g = lowest (crossed f g) (f.den * g.den)
