use Rattle.std.proofs.Common.{◌≡◌, ◌++◌, map, drop, Some}
use Rattle.cap_goal_spec.specs.Environments.{zero_value}
use Rattle.cap_owners_start.proofs.start.push_bound.Given as goal

abbrev pub invariant-loop-arg : goal.invariant-loop-arg
invariant-loop-arg l = l.terms.items ++ map (λ z. Some zero_value) (drop l._arg-index l.args) ≡ l.fn.terms.items ++ map (λ z. Some zero_value) l.args
