use Rattle.std.proofs.Common.{◌≡◌, ◌++◌, drop}
use Rattle.cap_prog.specs.Program.{done}
use Rattle.cap_prog.specs.Views.{block_view}
use Rattle.cap_goal_spec.specs.Roots.{loops_in}
use Rattle.cap_goal.specs.Views.{block_in}
use Rattle.cap_goal_roots.specs.Views.{loops_view}
use Rattle.cap_goal_roots.proofs.loops.+loops.Given as goal

abbrev pub invariant-push_loops-loop-i : goal.invariant-push_loops-loop-i
invariant-push_loops-loop-i l =
    loops_view l.loops.items ++ loops_in (block_view (drop l.i l.list)) (block_in l.others done)
    ≡ loops_view l.fn.loops.items ++ loops_in (block_view l.list) (block_in l.others done)
