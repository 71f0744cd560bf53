use Rattle.std.proofs.Common.{◌≡◌, ◌++◌, drop}
use Rattle.std.specs.List.{flat_map}
use Rattle.cap_prog.specs.Views.{function_view}
use Rattle.cap_goal_spec.specs.Roots.{loop_roots}
use Rattle.cap_goal_roots.specs.Views.{roots_view, loops_view}
use Rattle.cap_goal_roots.proofs.function.push_all_loop_roots.Given as goal

abbrev pub invariant-loop-at : goal.invariant-loop-at
invariant-loop-at l =
    roots_view l.roots.items ++ flat_map (loop_roots (function_view l.function) l.number) (loops_view (drop l.at-index l.loops))
    ≡ roots_view l.fn.roots.items ++ flat_map (loop_roots (function_view l.function) l.number) (loops_view l.loops)
