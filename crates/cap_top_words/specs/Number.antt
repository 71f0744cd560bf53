-- Numbers as words of a command line.
use Rattle.std.specs.Prelude.{ℕ, ◌&&◌, Bool, false, nat_le, List, [], ◌∷◌, Option, Some, None}
use Rattle.std.specs.Prelude.{if◌then◌else◌}
use Rattle.std.specs.Str.{all_ascii_digits}
use Rattle.std.specs.Str.Parse.{digits_value}

-- the first byte is a digit, and is `0` only where it stands alone
abbrev pub begins_number : List ℕ → Bool
begins_number [] = false
begins_number (d ∷ []) = nat_le 48 d && nat_le d 57
begins_number (d ∷ e ∷ ds) = nat_le 49 d && nat_le d 57

-- the number from `least` to `most` that the word writes in decimal, without leading zeros
abbrev pub number_within : ℕ → ℕ → List ℕ → Option ℕ
number_within least most word =
    let n = digits_value 10 word in
    if begins_number word && all_ascii_digits word && nat_le least n && nat_le n most
    then Some n else None
