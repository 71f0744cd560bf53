use Rattle.std.proofs.Common.{drop}
use Rattle.cap_rules_steps.specs.cap_rules.Making.{match_slots}
use Rattle.cap_rules_steps.proofs.Listing.{LeadsClaims}
use Rattle.cap_take_holdings.specs.Seen.{slots_view, lent_terms}
use Rattle.cap_take_holdings.proofs.matching.match_slots.Given as goal

abbrev pub invariant-loop-place : goal.invariant-loop-place
invariant-loop-place l = LeadsClaims l.fn.ledger l.ledger (match_slots l.rows l.env (drop l.place (slots_view l.slots)) (drop l.place (lent_terms l.terms))) (match_slots l.rows l.fn.env (slots_view l.slots) (lent_terms l.terms))
