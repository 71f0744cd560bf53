-- The results on the way to a term, in their order, and the first of them that leaves 128 bits.
use Rattle.std.specs.Prelude.{ℕ, ◌^◌, List, [], ◌∷◌, ◌++◌, ℤ, pos, negsuc, ◌+ℤ◌, ◌*ℤ◌, Bool, nat_lt}
use Rattle.std.specs.Prelude.{if◌then◌else◌, Option, Some, None}
use Rattle.cap_lin.specs.declared.term.Pair.{Pair}
use Rattle.cap_lin.specs.Linear.{Linear, is_zero, coefficient, merged, times, negative, without}

-- one sum or product, with its two operands
pub data Step : Type 0 where
  sum_of : ℤ → ℤ → Step
  product_of : ℤ → ℤ → Step

-- within 128 signed bits
abbrev pub fits : ℤ → Bool
fits (pos n) = nat_lt n (2 ^ 127)
fits (negsuc n) = nat_lt n (2 ^ 127)

-- the operands of the first result that leaves 128 signed bits
unfoldable pub first_wide : List Step → Option (ℤ × ℤ)
first_wide [] = None
first_wide (sum_of a b ∷ steps) = if fits (a +ℤ b) then first_wide steps else Some (a, b)
first_wide (product_of a b ∷ steps) = if fits (a *ℤ b) then first_wide steps else Some (a, b)

-- a sum adds the constants, and then the parts in the order of variables
unfoldable pub sums_steps : List Pair → List Step
sums_steps [] = []
sums_steps (j ∷ js) = sum_of j.left j.right ∷ sums_steps js

unfoldable pub plus_steps : Linear → Linear → List Step
plus_steps s t = sum_of s.constant t.constant ∷ sums_steps (merged s.parts t.parts)

-- a multiple has the factor first
unfoldable pub multiples_steps : ℤ → List (ℕ × ℤ) → List Step
multiples_steps k [] = []
multiples_steps k (p ∷ ps) = product_of k p.1 ∷ multiples_steps k ps

unfoldable pub times_steps : ℤ → Linear → List Step
times_steps k t = product_of k t.constant ∷ multiples_steps k t.parts

-- a combination makes each part's two products, and then their sum
abbrev pub part_steps : ℤ → ℤ → ℤ → ℤ → List Step → List Step
part_steps a left b right more =
    product_of a left ∷ (product_of b right ∷ (sum_of (a *ℤ left) (b *ℤ right) ∷ more))

unfoldable pub combined_parts_steps : ℤ → ℤ → List Pair → List Step
combined_parts_steps a b [] = []
combined_parts_steps a b (j ∷ js) = part_steps a j.left b j.right (combined_parts_steps a b js)

unfoldable pub combination_steps : ℤ → Linear → ℤ → Linear → List Step
combination_steps a s b t =
    part_steps a s.constant b t.constant (combined_parts_steps a b (merged s.parts t.parts))

abbrev pub negative_steps : Linear → List Step
negative_steps t = times_steps (negsuc 0) t

-- a difference makes the whole negative term first
unfoldable pub minus_steps : Linear → Linear → List Step
minus_steps s t = negative_steps t ++ plus_steps s (negative t)

-- a replacement makes the whole multiple first, and nothing where the variable doesn't occur
abbrev pub replaced_at_steps : ℤ → ℕ → Linear → Linear → List Step
replaced_at_steps k x by t =
    if is_zero k then [] else times_steps k by ++ plus_steps (without x t) (times k by)

unfoldable pub replaced_steps : ℕ → Linear → Linear → List Step
replaced_steps x by t = replaced_at_steps (coefficient x t.parts) x by t

-- a value adds up, from a sum on, a product for each part, with the coefficient first
unfoldable pub value_steps : (ℕ → ℤ) → ℤ → List (ℕ × ℤ) → List Step
value_steps n sum [] = []
value_steps n sum (p ∷ ps) =
    product_of p.1 (n p.0) ∷ (sum_of sum (p.1 *ℤ n p.0) ∷ value_steps n (sum +ℤ p.1 *ℤ n p.0) ps)
