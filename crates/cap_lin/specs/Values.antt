-- Valuations, and the values of terms.
use Rattle.std.specs.Prelude.{ℕ, ◌+◌, List, [], ◌∷◌, ◌==◌, if◌then◌else◌, get_or, ℤ, pos, ◌+ℤ◌}
use Rattle.std.specs.Prelude.{◌*ℤ◌}
use Rattle.cap_lin.specs.Linear.{Linear}

-- a fraction for each variable: its numerator over the common denominator, which is `under` + 1
pub record RationalValuation : Type 0 where
  pub numerator : ℕ → ℤ
  pub under : ℕ

abbrev pub denominator : RationalValuation → ℤ
denominator q = pos (q.under + 1)

-- a whole number for each variable of sort Int, and a fraction for each of sort Perm
pub record Valuation : Type 0 where
  pub whole : ℕ → ℤ
  pub fraction : RationalValuation

-- the number at a place of a list
abbrev pub number_at : List ℤ → ℕ → ℤ
number_at zs x = get_or zs x (pos 0)

-- the sum of coefficients times numbers
unfoldable pub parts_value : (ℕ → ℤ) → List (ℕ × ℤ) → ℤ
parts_value n [] = pos 0
parts_value n (p ∷ ps) = p.1 *ℤ n p.0 +ℤ parts_value n ps

-- the term's value where each variable is a whole number
unfoldable pub value : (ℕ → ℤ) → Linear → ℤ
value n t = t.constant +ℤ parts_value n t.parts

-- the numerator of the term's value, over the denominator, where each variable is a fraction
unfoldable pub amount : RationalValuation → Linear → ℤ
amount q t = t.constant *ℤ denominator q +ℤ parts_value q.numerator t.parts

-- the values of variables, with another one at a variable
abbrev pub changed : (ℕ → ℤ) → ℕ → ℤ → ℕ → ℤ
changed n x z y = if y == x then z else n y
