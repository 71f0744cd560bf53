-- What a call of exact arithmetic answers.
use Rattle.std.specs.Prelude.{◌≡◌, ◌-◌, ◌^◌, List, [], Some, None, Result, MatchResult, ℤ, pos}
use Rattle.std.specs.Prelude.{negsuc, ◌+ℤ◌, ◌*ℤ◌, ◌≤ℤ◌}
use Rattle.cap_lin.specs.Steps.{Step, first_wide, part_steps}
use Rattle.cap_lin.specs.declared.error.LinError.{LinError}
use Rattle.cap_lin.specs.declared.error.LinError.TheVariants.{Wide, OutOfMemory}

-- what an error says of the results on the way: Wide has the operands of the first that leaves 128
-- bits
abbrev pub Explains : LinError → List Step → Type 0
Explains (Wide a b) steps = first_wide steps ≡ Some (a, b)
Explains OutOfMemory steps = Unit {0}

-- what is seen of the answer is the value, where each result on the way is within 128 bits, and
-- otherwise it is Wide; want of memory may come in either case
abbrev pub IsExactBy : {T V : Type 0} → Result T LinError → (T → V) → List Step → V → Type 0
IsExactBy r view steps value =
    MatchResult r (λ x. (first_wide steps ≡ None) × (view x ≡ value)) (λ e. Explains e steps)

abbrev pub IsExact : {T : Type 0} → Result T LinError → List Step → T → Type 0
IsExact r steps value =
    MatchResult r (λ x. (first_wide steps ≡ None) × (x ≡ value)) (λ e. Explains e steps)

-- from -2^62 to 2^62 - 1
abbrev pub IsShort : ℤ → Type 0
IsShort z = (negsuc (2 ^ 62 - 1) ≤ℤ z) × (z ≤ℤ pos (2 ^ 62 - 1))

-- the sum of two products, where no result on the way leaves 128 bits
abbrev pub IsCombined : ℤ → ℤ → ℤ → ℤ → ℤ → Type 0
IsCombined a left b right sum =
    (first_wide (part_steps a left b right []) ≡ None) × (sum ≡ a *ℤ left +ℤ b *ℤ right)
