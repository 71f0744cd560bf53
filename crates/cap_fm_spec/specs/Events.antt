-- The events of an elimination, in their order, and the first that passes a limit.
use Rattle.std.specs.Prelude.{ℕ, List, [], ◌∷◌, map, ℤ, Bool, nat_lt, if◌then◌else◌, Option, Some}
use Rattle.std.specs.Prelude.{None}
use Rattle.cap_lin.specs.Steps.{Step, first_wide}

-- a sum or a product is made, or a row that never arose before is counted, with its number from 1
-- on
pub data Event : Type 0 where
  made : Step → Event
  counted : ℕ → Event

-- a result leaves 128 bits, by its operands, or a row is one too many
pub data Limit : Type 0 where
  wide : ℤ → ℤ → Limit
  many : Limit

abbrev pub made_all : List Step → List Event
made_all steps = map made steps

abbrev pub wide_or : Option (ℤ × ℤ) → Option Limit → Option Limit
wide_or (Some p) later = Some (wide p.0 p.1)
wide_or None later = later

-- one elimination has at most 4,096 rows
abbrev pub is_too_many : ℕ → Bool
is_too_many n = nat_lt 4096 n

unfoldable pub first_limit : List Event → Option Limit
first_limit [] = None
first_limit (made s ∷ es) = wide_or (first_wide (s ∷ [])) (first_limit es)
first_limit (counted n ∷ es) = if is_too_many n then Some many else first_limit es
