use Rattle.std.proofs.Common.{◌≡◌}
use Rattle.std.specs.Vec.{vec_len}
use Rattle.cap_prog.specs.Program.{done}
use Rattle.cap_goal.specs.Views.{block_in}
use Rattle.cap_rules_steps.proofs.points.next_statement.Given as goal

abbrev pub invariant-loop-list : goal.invariant-loop-list
invariant-loop-list l = block_in l.fn.point.lists.items done ≡ block_in l.lists.items done

abbrev pub decreases-loop-list : goal.decreases-loop-list
decreases-loop-list l = vec_len l.lists
