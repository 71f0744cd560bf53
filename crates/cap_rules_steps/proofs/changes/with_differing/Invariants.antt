use Rattle.std.proofs.Common.{drop}
use Rattle.cap_rules_steps.proofs.Walking.{Leads}
use Rattle.cap_rules_steps.proofs.Listing.{differing}
use Rattle.cap_rules_steps.proofs.changes.with_differing.Given as goal

abbrev pub invariant-loop-fact : goal.invariant-loop-fact
invariant-loop-fact l = Leads (differing l.term l.state (drop l.fact-index l.facts)) (differing l.term l.fn.state l.facts)
