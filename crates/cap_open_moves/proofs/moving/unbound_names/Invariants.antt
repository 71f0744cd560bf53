use Rattle.std.proofs.Common.{◌≡◌}
use Rattle.cap_goal_spec.specs.Environments.{unbound}
use Rattle.cap_open_moves.proofs.moving.unbound_names.Given as goal

abbrev pub invariant-loop-step : goal.invariant-loop-step
invariant-loop-step l = l.names.items ≡ unbound l.step
