use Rattle.std.proofs.Common.{drop}
use Rattle.cap_rules.specs.Making.{values_here}
use Rattle.cap_rules_steps.proofs.Walking.{LeadsBehind}
use Rattle.cap_rules_steps.proofs.terms.values_here.Given as goal

abbrev pub invariant-loop-term : goal.invariant-loop-term
invariant-loop-term l = LeadsBehind l.values.items (values_here l.state (drop l.term-index l.terms)) (values_here l.state l.terms)
