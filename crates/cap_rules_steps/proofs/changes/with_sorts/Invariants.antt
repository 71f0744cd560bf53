use Rattle.std.proofs.Common.{drop}
use Rattle.cap_rules.specs.Making.{with_sorts}
use Rattle.cap_rules_steps.proofs.Walking.{Leads}
use Rattle.cap_rules_steps.proofs.changes.with_sorts.Given as goal

abbrev pub invariant-loop-sort : goal.invariant-loop-sort
invariant-loop-sort l = Leads (with_sorts l.state (drop l.sort-index l.sorts)) (with_sorts l.fn.state l.sorts)
