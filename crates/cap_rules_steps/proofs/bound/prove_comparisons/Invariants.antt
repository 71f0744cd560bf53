use Rattle.std.proofs.Common.{drop}
use Rattle.cap_rules.specs.Making.{prove_comparisons}
use Rattle.cap_rules_steps.proofs.Listing.{LeadsClaims}
use Rattle.cap_rules_steps.proofs.bound.prove_comparisons.Given as goal

abbrev pub invariant-loop-comparison : goal.invariant-loop-comparison
invariant-loop-comparison l = LeadsClaims l.fn.ledger l.ledger (prove_comparisons l.rows l.env (drop l.comparison-index l.comparisons)) (prove_comparisons l.rows l.env l.comparisons)
