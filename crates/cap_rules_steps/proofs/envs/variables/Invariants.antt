use Rattle.std.proofs.Common.{◌≡◌}
use Rattle.cap_rules.specs.cap_goal_spec.Terms.{variables_from}
use Rattle.cap_rules_steps.proofs.envs.variables.Given as goal

abbrev pub invariant-loop-step : goal.invariant-loop-step
invariant-loop-step l = l.all.items ≡ variables_from l.first l.step
