use Rattle.std.proofs.Common.{◌≡◌, ◌≤◌, length, take}
use Rattle.cap_goal.specs.Views.{tasks_view}
use Rattle.cap_goal_roots.specs.Views.{without_done}
use Rattle.cap_goal_roots.proofs.goal.left_over.Given as goal

abbrev pub invariant-loop-left : goal.invariant-loop-left
invariant-loop-left l = record {
  within : l.left ≤ length l.tasks;
  same : without_done l.facts (tasks_view (take l.left l.tasks)) ≡ without_done l.facts (tasks_view l.tasks);
}

abbrev pub decreases-loop-left : goal.decreases-loop-left
decreases-loop-left l = l.left
