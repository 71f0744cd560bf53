-- Conversions to an atom, by a walk through the sums of an algebra.
use Rattle.std.specs.Prelude.{ℕ, ◌+◌, ◌&&◌, nat_le, nat_lt, Bool, if◌then◌else◌, List, [], ◌∷◌, ◌++◌}
use Rattle.cap_galg.specs.Algebras.{PlainAlgebra, product, sum as either, atoms}
use Rattle.cap_goal_spec.specs.Choices.{PlainChoice, by_convert}
use Rattle.cap_rules.specs.Taking.{sum_count}

-- the atoms from a on, up to b
abbrev pub is_between : ℕ → ℕ → ℕ → Bool
is_between a b i = nat_le a i && nat_lt i b

-- from the other side of sum number n, whose sides' atoms begin at a and at b and end before c
abbrev pub conversion_at : ℕ → ℕ → ℕ → ℕ → ℕ → List PlainChoice
conversion_at i n a b c =
    if is_between a b i
    then by_convert n 1 [] ∷ []
    else (if is_between b c i then by_convert n 0 [] ∷ [] else [])

-- by the sums of an algebra whose atoms begin at number a and its sums at number n
abbrev pub conversions_in : ℕ → PlainAlgebra → ℕ → ℕ → List PlainChoice
conversions_in i (product x y) a n =
    conversions_in i x a n ++ conversions_in i y (a + atoms x) (n + sum_count x)
conversions_in i (either x y) a n =
    conversion_at i n a (a + atoms x) (a + atoms x + atoms y)
    ++ (conversions_in i x a (n + 1)
    ++ conversions_in i y (a + atoms x) (n + 1 + sum_count x))
conversions_in i x a n = []
