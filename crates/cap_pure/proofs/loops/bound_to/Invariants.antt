use Rattle.std.proofs.Common.{◌≡◌, take}
use Rattle.cap_goal_spec.specs.Environments.{bound}
use Rattle.cap_pure.proofs.loops.bound_to.Given as goal

abbrev pub invariant-loop-term : goal.invariant-loop-term
invariant-loop-term l = l.names.items ≡ bound (take l.term-index l.terms)
