use Rattle.std.proofs.Common.{[], drop}
use Rattle.cap_prog.specs.Views.{action_view}
use Rattle.cap_rules_steps.proofs.Listing.{LeadsClaims}
use Rattle.cap_open_moves_parts.specs.Views.{parts_view}
use Rattle.cap_open_moves.proofs.Matches.{ready_seen}
use Rattle.cap_open_moves.proofs.moving.match_ready.Given as goal

abbrev pub invariant-loop-part : goal.invariant-loop-part
invariant-loop-part l = LeadsClaims l.fn.ledger l.ledger (ready_seen l.state l.fact l.new (action_view l.action) l.env (parts_view l.waiting.items) (drop l.part-index l.parts)) (ready_seen l.state l.fact l.new (action_view l.action) l.fn.env [] l.parts)
