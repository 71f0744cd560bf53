use Rattle.std.proofs.Common.{◌≡◌, ◌++◌, drop}
use Rattle.cap_rules.specs.Closing.{of_type}
use Rattle.cap_owners_passes.specs.Views.{facts_lent}
use Rattle.cap_owners_passes.proofs.statement.push_rivals.Given as goal

abbrev pub invariant-loop-fact : goal.invariant-loop-fact
invariant-loop-fact l = facts_lent l.fn.rivals.items ++ of_type l.opened.kind l.facts ≡ facts_lent l.rivals.items ++ of_type l.opened.kind (drop l.fact-index l.facts)
