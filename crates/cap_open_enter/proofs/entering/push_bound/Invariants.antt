use Rattle.std.proofs.Common.{◌≡◌, ◌++◌, drop}
use Rattle.cap_rules_steps.specs.cap_goal_spec.Environments.{bound}
use Rattle.cap_open_enter.proofs.entering.push_bound.Given as goal

abbrev pub invariant-loop-term : goal.invariant-loop-term
invariant-loop-term l = l.names.items ++ bound (drop l.term-index l.terms) ≡ l.fn.names.items ++ bound l.terms
