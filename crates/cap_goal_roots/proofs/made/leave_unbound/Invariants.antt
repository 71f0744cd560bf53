use Rattle.std.proofs.Common.{◌≡◌, ◌++◌, ◌-◌}
use Rattle.cap_goal_spec.specs.Environments.{unbound}
use Rattle.cap_goal_roots.proofs.made.leave_unbound.Given as goal

abbrev pub invariant-loop : goal.invariant-loop
invariant-loop l = l.env.items ++ unbound (l.count - l.counter) ≡ l.fn.env.items ++ unbound l.count
