use Rattle.std.proofs.Common.{◌≡◌, ◌++◌, ◌-◌, replicate}
use Rattle.cap_goal_spec.specs.Environments.{zero_value}
use Rattle.cap_goal_roots.proofs.made.push_zeros.Given as goal

abbrev pub invariant-loop : goal.invariant-loop
invariant-loop l =
    l.terms.items ++ replicate (l.count - l.counter) zero_value
    ≡ l.fn.terms.items ++ replicate l.count zero_value
