use Rattle.std.proofs.Common.{◌≡◌, ◌++◌, map}
use Rattle.std.specs.List.{range_with_len}
use Rattle.cap_goal.specs.Views.{unit_view}
use Rattle.cap_goal_spec.specs.Roots.{function_unit}
use Rattle.cap_top_report.proofs.units.push_functions.Given as goal

-- what was there, and those of the numbers so far
abbrev pub invariant-loop-number : goal.invariant-loop-number
invariant-loop-number l =
    map unit_view l.units.items ≡ map unit_view l.fn.units.items ++ map function_unit (range_with_len 0 l.number)
