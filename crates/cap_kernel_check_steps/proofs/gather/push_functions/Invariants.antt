use Rattle.std.proofs.Common.{◌≡◌, ◌++◌, map, flat_map}
use Rattle.std.specs.List.{range_with_len}
use Rattle.cap_prog.specs.Views.{program_view}
use Rattle.cap_goal_spec.specs.Roots.{function_unit}
use Rattle.cap_kernel_check_steps.specs.Starts.{unit_starts}
use Rattle.cap_kernel_check_steps.specs.Views.{starts_view}
use Rattle.cap_kernel_check_steps.proofs.gather.push_functions.Given as goal

abbrev pub invariant-loop-number : goal.invariant-loop-number
invariant-loop-number l =
    starts_view l.starts.items
    ≡ starts_view l.fn.starts.items ++ flat_map (unit_starts (program_view l.program)) (map function_unit (range_with_len 0 l.number))
