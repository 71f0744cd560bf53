use Rattle.std.proofs.Common.{◌≡◌, ◌++◌}
use Rattle.cap_goal_spec.specs.Environments.{unbound}
use Rattle.cap_owners_start.proofs.start.push_unbound.Given as goal

abbrev pub invariant-loop-name : goal.invariant-loop-name
invariant-loop-name l = l.terms.items ≡ l.fn.terms.items ++ unbound l._name
