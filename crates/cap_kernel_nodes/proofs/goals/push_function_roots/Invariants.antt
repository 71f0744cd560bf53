use Rattle.std.proofs.Common.{◌≡◌, ◌++◌, map, flat_map}
use Rattle.std.specs.List.{range_with_len}
use Rattle.cap_prog.specs.Views.{program_view}
use Rattle.cap_goal_spec.specs.Roots.{function_unit, roots}
use Rattle.cap_goal_roots.specs.Views.{roots_view}
use Rattle.cap_kernel_nodes.proofs.goals.push_function_roots.Given as goal

abbrev pub invariant-loop-number : goal.invariant-loop-number
invariant-loop-number l =
    roots_view l.all.items ≡ roots_view l.fn.all.items ++ flat_map (roots (program_view l.program)) (map function_unit (range_with_len 0 l.number))
