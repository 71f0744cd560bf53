use Rattle.std.proofs.Common.{◌≡◌, length}
use Rattle.std.specs.Vec.{vec_len}
use Rattle.cap_rules.specs.cap_goal_spec.States.{PlainState, goal_of}
use Rattle.cap_goal.specs.Views.{tasks_view}
use Rattle.cap_rules_steps.proofs.tasks.remove_done.Given as goal

abbrev pub invariant-loop-tasks : goal.invariant-loop-tasks
invariant-loop-tasks l = (s : PlainState) → length s.facts ≡ l.facts → goal_of s (tasks_view l.fn.tasks.items) ≡ goal_of s (tasks_view l.tasks.items)

abbrev pub decreases-loop-tasks : goal.decreases-loop-tasks
decreases-loop-tasks l = vec_len l.tasks
