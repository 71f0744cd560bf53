use Rattle.std.proofs.Common.{◌≡◌, ◌++◌}
use Rattle.cap_rules.specs.cap_goal_spec.Environments.{unbound}
use Rattle.cap_rules_steps.proofs.envs.push_unbound.Given as goal

abbrev pub invariant-loop-step : goal.invariant-loop-step
invariant-loop-step l = l.names.items ≡ l.fn.names.items ++ unbound l.step
