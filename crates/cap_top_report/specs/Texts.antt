-- The line of a unit.
use Rattle.std.specs.Prelude.{ℕ, List, [], ◌++◌, codes, slice_get, Option, Some, None}
use Rattle.std.specs.Fmt.{decimal, signed_decimal}
use Rattle.cap_syntax.specs.Place.{place_text}
use Rattle.cap_prog.specs.Program.{PlainRegionType, PlainFunction, PlainProgram}
use Rattle.cap_goal_spec.specs.Roots.{PlainUnit, region_unit, function_unit}
use Rattle.cap_search_spec.specs.Leaves.{Need, lacks_fact, lacks_cell, lacks_region, lacks_guard, lacks_move, lacks_state, PlainObligation}
use Rattle.cap_search_spec.specs.Verdicts.{PlainVerdict, is_proved, is_spent, is_deep, is_wide, is_rows, is_stuck}

abbrev pub need_word : Need → List ℕ
need_word lacks_fact = codes "fact"
need_word lacks_cell = codes "cell"
need_word lacks_region = codes "region"
need_word lacks_guard = codes "guard"
need_word lacks_move = codes "move"
need_word lacks_state = codes "state"

-- the statement's place, what it needs, and the place of that
abbrev pub obligation_text : PlainObligation → List ℕ
obligation_text o =
    codes "open " ++ (place_text o.statement
    ++ (codes " needs " ++ (need_word o.need ++ (codes " " ++ place_text o.item))))

abbrev pub verdict_text : PlainVerdict → List ℕ
verdict_text (is_proved trees) = codes "proved"
verdict_text (is_spent budget) = codes "spent " ++ decimal budget
verdict_text is_deep = codes "deep 1000"
verdict_text (is_wide a b) =
    codes "wide " ++ (signed_decimal a ++ (codes " " ++ signed_decimal b))
verdict_text is_rows = codes "rows 4096"
verdict_text (is_stuck o) = obligation_text o

abbrev pub region_title : Option PlainRegionType → List ℕ
region_title None = []
region_title (Some k) = codes "region " ++ k.name

abbrev pub function_title : Option PlainFunction → List ℕ
function_title None = []
function_title (Some f) = codes "function " ++ f.name

-- its kind and its name
abbrev pub unit_title : PlainProgram → PlainUnit → List ℕ
unit_title p (region_unit n) = region_title (slice_get p.regions n)
unit_title p (function_unit n) = function_title (slice_get p.functions n)

abbrev pub titled_line : List ℕ → PlainVerdict → List ℕ
titled_line title v = title ++ (codes ": " ++ (verdict_text v ++ codes "\n"))
