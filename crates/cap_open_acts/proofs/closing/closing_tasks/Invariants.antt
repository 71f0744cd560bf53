use Rattle.std.proofs.Common.{◌≡◌, ◌++◌, map, drop, true}
use Rattle.cap_goal.specs.Views.{tasks_view}
use Rattle.cap_rules_steps.specs.cap_goal_spec.States.{to_close}
use Rattle.cap_rules_steps.specs.cap_rules.Closing.{closing}
use Rattle.cap_open_acts.proofs.closing.closing_tasks.Given as goal

abbrev pub invariant-loop-region : goal.invariant-loop-region
invariant-loop-region l = map (λ f. to_close true l.at) (drop l.region-index l.opened) ++ tasks_view l.tasks.items ≡ closing l.opened l.at (tasks_view l.behind)
