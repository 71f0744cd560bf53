-- What contracts see of the sides of a sum, and where a walk for a sum has come to.
use Rattle.std.specs.Prelude.{◌≡◌, ℕ, ◌+◌, ◌<◌, Some}
use Rattle.cap_galg.specs.Algebras.{PlainAlgebra, atoms}
use Rattle.cap_galg.specs.Views.{algebra_view}
use Rattle.cap_rules.specs.Taking.{Side, Sides, sum_count, sum_in}
use Rattle.cap_take_guards.specs.declared.sums.Side as code_side
use Rattle.cap_take_guards.specs.declared.sums.Sides as code_sides
use Rattle.cap_take_guards.specs.declared.sums.Walked as code
use Rattle.cap_take_guards.specs.declared.sums.Walked.TheVariants.{Found, Past}

abbrev pub side_view : code_side.Side → Side
side_view x = record { algebra = algebra_view x.algebra.now; atom = x.atom }

abbrev pub sides_view : code_sides.Sides → Sides
sides_view x = record { left = side_view x.left; right = side_view x.right }

-- from an algebra whose first atom has number i: the sides of its sum number n, or how many sums
-- after its own that sum comes, and the number behind its atoms
abbrev pub IsWalked : PlainAlgebra → ℕ → ℕ → code.Walked → Type 0
IsWalked a i n (Found x) = (n < sum_count a) × (sum_in a i n ≡ Some (sides_view x))
IsWalked a i n (Past rest next) = (sum_count a + rest ≡ n) × (next ≡ i + atoms a)
