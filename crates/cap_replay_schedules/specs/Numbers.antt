-- Numbers as schedules write them: decimal, without leading zeros, with a minus sign where they are below 0.
use Rattle.std.specs.Prelude.{ℕ, zero, suc, ◌+◌, ◌-◌, ◌*◌, ◌^◌, ◌&&◌, nat_eq, nat_le, ℤ, pos, negsuc, Bool, if◌then◌else◌, List, [], ◌∷◌, Option, Some, None, option_map, option_and_then}

abbrev pub is_digit : ℕ → Bool
is_digit b = nat_le 48 b && nat_le b 57

-- the number that goes on with these digits, where they are digits and it is at most the limit
abbrev pub more_digits : ℕ → ℕ → List ℕ → Option ℕ
more_digits limit n [] = if nat_le n limit then Some n else None
more_digits limit n (b ∷ bs) = if is_digit b then more_digits limit (n * 10 + (b - 48)) bs else None

abbrev pub zero_alone : List ℕ → Option ℕ
zero_alone [] = Some 0
zero_alone (b ∷ bs) = None

abbrev pub natural : ℕ → List ℕ → Option ℕ
natural limit [] = None
natural limit (b ∷ bs) = if nat_eq b 48 then zero_alone bs else (if is_digit b then more_digits limit (b - 48) bs else None)

abbrev pub below_zero : ℕ → Option ℤ
below_zero zero = None
below_zero (suc n) = Some (negsuc n)

-- within 128 bits
abbrev pub number : List ℕ → Option ℤ
number [] = None
number (b ∷ bs) = if nat_eq b 45 then option_and_then below_zero (natural (2 ^ 127) bs) else option_map pos (natural (2 ^ 127 - 1) (b ∷ bs))
