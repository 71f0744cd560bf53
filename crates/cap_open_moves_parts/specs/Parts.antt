-- The guards of an action, as parts of a move.
use Rattle.std.specs.Prelude.{ℕ, not, List, map, filter}
use Rattle.cap_prog.specs.declared.assertion.Asked.{Asked}
use Rattle.cap_rules.specs.Closing.{MovePart, guard, is_indexed}

-- the guards that aren't indexed
abbrev pub parts_plain : List (ℕ × Asked) → List MovePart
parts_plain gs = map (λ g. guard g.0 g.1) (filter (λ g. not (is_indexed g)) gs)
