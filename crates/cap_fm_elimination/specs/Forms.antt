-- A row as it is compared with others: its term and its kind. Its sort plays no part.
use Rattle.std.specs.Prelude.{ℕ, ◌+◌, ◌-◌, ◌*◌, ◌%◌, ◌^◌, ℤ, Bool, bit_and, fold}
use mir.Syntax.{w128}
use mir.Val.{of_z as cast_unsigned}
use Rattle.cap_lin.specs.Linear.{Linear}
use Rattle.cap_lin.specs.declared.row.Kind.{Kind}
use Rattle.cap_fm_spec.specs.Rows.{same_row}

abbrev pub same_form : Linear × Kind → Linear × Kind → Bool
same_form f g = same_row f.0 f.1 g.0 g.1

-- the lowest 64 bits of a number
abbrev pub low_word : ℤ → ℕ
low_word z = bit_and (cast_unsigned w128 z) (2 ^ 64 - 1)

-- a digest with one more word
abbrev pub mixed : ℕ → ℕ → ℕ
mixed digest word = ((digest * 0x9e37_79b9_7f4a_7c15) % 2 ^ 64 + word) % 2 ^ 64

-- and with a part of a term
abbrev pub with_part : ℕ → ℕ × ℤ → ℕ
with_part digest p = mixed (mixed digest p.0) (low_word p.1)

-- 64 bits that are the same for equal terms
abbrev pub digest_of : Linear → ℕ
digest_of t = fold with_part (low_word t.constant) t.parts
