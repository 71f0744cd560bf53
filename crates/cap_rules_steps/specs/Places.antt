-- Terms by their place in a list.
use Rattle.std.specs.Prelude.{ℕ, List, [], ◌∷◌, ◌++◌, get_or}
use Rattle.cap_lin.specs.Linear.{Linear}
use Rattle.cap_lin.specs.declared.row.Row.{Row}
use Rattle.std.specs.Global.{Vec}
use Rattle.std.specs.Borrow.{Bor}
use Rattle.cap_prog.specs.declared.function.Function.{Function}
use Rattle.cap_prog.specs.declared.region.RegionType.{RegionType}
use Rattle.cap_prog.specs.Program.{PlainFunction, PlainRegionType}
use Rattle.cap_prog.specs.Views.{function_view, region_view}
use Rattle.cap_rules.specs.cap_goal_spec.Environments.{zero_value}

-- 0 past the end
abbrev pub term_among : List Linear → ℕ → Linear
term_among terms x = get_or terms x zero_value

-- the rows, and another one as the last
abbrev pub ended_by : List Row → Row → List Row
ended_by rows last = rows ++ last ∷ []

-- what is seen of a part of a program that is lent
abbrev pub function_at : Bor Function → PlainFunction
function_at f = function_view f.now

abbrev pub region_at : Bor RegionType → PlainRegionType
region_at k = region_view k.now

abbrev pub terms_view : Vec Linear → List Linear
terms_view ts = ts.items

abbrev pub rows_view : Vec Row → List Row
rows_view rows = rows.items
