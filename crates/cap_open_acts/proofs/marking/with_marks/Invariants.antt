use Rattle.std.proofs.Common.{drop}
use Rattle.cap_rules_steps.specs.cap_rules.Closing.{with_marks}
use Rattle.cap_rules_steps.proofs.Listing.{LeadsClaims}
use Rattle.cap_open_acts.specs.Views.{rivals_view}
use Rattle.cap_open_acts.proofs.marking.with_marks.Given as goal

abbrev pub invariant-loop-place : goal.invariant-loop-place
invariant-loop-place l = LeadsClaims l.fn.ledger l.ledger (with_marks l.state (drop l.place (rivals_view l.pairs)) (drop l.place l.marks)) (with_marks l.fn.state (rivals_view l.pairs) l.marks)
