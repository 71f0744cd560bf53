use Rattle.std.proofs.Common.{drop}
use Rattle.cap_rules_steps.specs.cap_rules.Making.{with_equalities}
use Rattle.cap_rules_steps.proofs.Walking.{Leads}
use Rattle.cap_take_holdings.proofs.facts.with_equalities.Given as goal

abbrev pub invariant-loop-place : goal.invariant-loop-place
invariant-loop-place l = Leads (with_equalities l.state (drop l.place l.left) (drop l.place l.right)) (with_equalities l.fn.state l.left l.right)
