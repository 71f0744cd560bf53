use Rattle.std.proofs.Common.{map}
use Rattle.std.specs.List.{range_with_len}
use Rattle.cap_prog.specs.Views.{program_view}
use Rattle.cap_goal_spec.specs.Roots.{function_unit}
use Rattle.cap_owners_places.specs.Gathered.{AreGathered}
use Rattle.cap_owners_places.proofs.units.push_functions.Given as goal

abbrev pub invariant-loop-number : goal.invariant-loop-number
invariant-loop-number l =
    AreGathered (program_view l.program) (map function_unit (range_with_len 0 l.number)) l.fn.gathered l.gathered
