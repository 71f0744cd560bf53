use Rattle.std.proofs.Common.{drop}
use Rattle.cap_rules_steps.proofs.Listing.{LeadsClaims}
use Rattle.cap_open_enter.proofs.Regions.{others}
use Rattle.cap_open_enter.proofs.entering.prove_other.Given as goal

abbrev pub invariant-loop-other : goal.invariant-loop-other
invariant-loop-other l = LeadsClaims l.fn.ledger l.ledger (others l.state l.fact tt (drop l.other-index l.opened)) (others l.state l.fact tt l.opened)
