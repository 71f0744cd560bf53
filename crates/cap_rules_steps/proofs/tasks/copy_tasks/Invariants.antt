use Rattle.std.proofs.Common.{◌≡◌, take, map}
use Rattle.cap_goal.specs.Views.{task_view}
use Rattle.cap_rules_steps.proofs.tasks.copy_tasks.Given as goal

abbrev pub invariant-loop-task : goal.invariant-loop-task
invariant-loop-task l = map task_view l.copies.items ≡ map task_view (take l.task-index l.tasks)
