-- The lines of bytes, and what they tell, from the first to the last.
use Rattle.std.specs.Prelude.{ℕ, ◌+◌, ◌==◌, nat_lt, List, [], ◌∷◌, Option, Some, None, option_map, option_and_then, if◌then◌else◌}
use Rattle.serde_json.specs.Data.{Data}
use Rattle.cap_goal_spec.specs.Choices.{PlainChoice}
use Rattle.cap_deriv_choices.specs.Reading.{choice_of_json}
use Rattle.cap_deriv.specs.Reading.{json_of_bytes, opening_of_json, closing_of_json}

-- lines end by LF; that of the last may be missing
abbrev pub in_first_line : ℕ → List (List ℕ) → List (List ℕ)
in_first_line x [] = (x ∷ []) ∷ []
in_first_line x (l ∷ ls) = (x ∷ l) ∷ ls

abbrev pub ended_lines : List ℕ → List (List ℕ)
ended_lines [] = []
ended_lines (x ∷ xs) = if x == 10 then [] ∷ ended_lines xs else in_first_line x (ended_lines xs)

-- a line behind the first
pub data PlainLine : Type 0 where
  choice_line : PlainChoice → PlainLine
  end_line : ℕ → PlainLine

-- what is told behind the first line: choices, and how it ends
pub data Told : Type 0 where
  all_told : Told
  bad_told : ℕ → Told
  unended_told : Told
  too_many_told : Told
  choice_told : PlainChoice → Told → Told

abbrev pub most_nodes : ℕ
most_nodes = 1000000

-- behind the last line, which is good after this number of nodes
abbrev pub behind_end : ℕ → List (List ℕ) → Told
behind_end k [] = all_told
behind_end k (l ∷ ls) = bad_told (k + 3)

abbrev pub or_end_line : Option PlainLine → Option PlainLine → Option PlainLine
or_end_line (Some x) more = Some x
or_end_line None more = more

abbrev pub line_of_json : Data → Option PlainLine
line_of_json d =
    or_end_line
    (option_map choice_line (choice_of_json d))
    (option_map end_line (closing_of_json d))

abbrev pub line_of_bytes : List ℕ → Option PlainLine
line_of_bytes l = option_and_then line_of_json (json_of_bytes l)

abbrev pub told_at_line : Option PlainLine → ℕ → List (List ℕ) → Told → Told
told_at_line None k ls more = bad_told (k + 2)
told_at_line (Some (choice_line c)) k ls more =
    if nat_lt k most_nodes then choice_told c more else too_many_told
told_at_line (Some (end_line n)) k ls more =
    if n == k then behind_end k ls else bad_told (k + 2)

-- after k nodes, so that the line at hand is that of number k + 2
abbrev pub told_by : ℕ → List (List ℕ) → Told
told_by k [] = unended_told
told_by k (l ∷ ls) = told_at_line (line_of_bytes l) k ls (told_by (k + 1) ls)

-- what the whole tells: the number of trees of the first line, and what the others tell
pub data Opening : Type 0 where
  no_opening : Opening
  bad_opening : Opening
  opening_told : ℕ → Told → Opening

abbrev pub opened_by : Option ℕ → List (List ℕ) → Opening
opened_by None ls = bad_opening
opened_by (Some trees) ls = opening_told trees (told_by 0 ls)

abbrev pub told_by_lines : List (List ℕ) → Opening
told_by_lines [] = no_opening
told_by_lines (l ∷ ls) = opened_by (option_and_then opening_of_json (json_of_bytes l)) ls

abbrev pub told_by_bytes : List ℕ → Opening
told_by_bytes bytes = told_by_lines (ended_lines bytes)

-- these choices are told, and then more
abbrev pub choices_told : List PlainChoice → Told → Told
choices_told [] t = t
choices_told (c ∷ cs) t = choice_told c (choices_told cs t)
