-- Places in a text.
use Rattle.std.specs.Prelude.{◌≡◌, ℕ, ◌+◌, ◌-◌, ◌<◌, ◌≤◌, ◌⊎◌, Bool, not, ◌==◌, List, ◌++◌, codes, length, take, drop, count_by, reverse}
use Rattle.std.specs.Fmt.{decimal}
use Rattle.std.specs.List.{prefix_len}
use Rattle.cap_syntax.specs.declared.place.Place.{Place}

abbrev pub is_line_feed : ℕ → Bool
is_line_feed b = b == 10

-- The place behind these bytes, both numbers from 1: a line for each line feed, and a column for each
-- byte behind the last of them.
abbrev pub place_after : List ℕ → Place
place_after front = record {
  line = 1 + count_by is_line_feed front;
  column = 1 + prefix_len (λ b. not (is_line_feed b)) (reverse front);
}

-- the place of the byte at this index
abbrev pub place_at : List ℕ → ℕ → Place
place_at bytes i = place_after (take i bytes)

-- the place at which this rest of the text begins
abbrev pub place_of : List ℕ → List ℕ → Place
place_of bytes rest = place_at bytes (length bytes - length rest)

-- what is left of the text begins at this place
pub record StandsAt (bytes rest : List ℕ) (place : Place) : Type 0 where
  pub within : length rest ≤ length bytes
  pub rest_of : drop (length bytes - length rest) bytes ≡ rest
  pub at : place ≡ place_of bytes rest

-- one place comes before another
abbrev pub IsEarlier : Place → Place → Type 0
IsEarlier p q = (p.line < q.line) ⊎ ((p.line ≡ q.line) × (p.column < q.column))

-- a place as it is printed, `line:column`
abbrev pub place_text : Place → List ℕ
place_text p = decimal p.line ++ codes ":" ++ decimal p.column
