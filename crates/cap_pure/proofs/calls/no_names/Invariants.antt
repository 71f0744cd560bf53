use Rattle.std.proofs.Common.{◌≡◌}
use Rattle.cap_goal_spec.specs.Environments.{unbound}
use Rattle.cap_pure.proofs.calls.no_names.Given as goal

abbrev pub invariant-loop-step : goal.invariant-loop-step
invariant-loop-step l = l.terms.items ≡ unbound l.step
