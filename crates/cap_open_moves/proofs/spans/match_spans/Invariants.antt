use Rattle.std.proofs.Common.{◌≤◌, drop, length}
use Rattle.cap_rules_steps.proofs.Listing.{LeadsClaims}
use Rattle.cap_open_moves.proofs.Indexed.{spans_of}
use Rattle.cap_open_moves.proofs.spans.match_spans.Given as goal

abbrev pub invariant-loop-guard : goal.invariant-loop-guard
invariant-loop-guard l = record {
  leads : LeadsClaims l.fn.ledger l.ledger (spans_of l.state l.fact l.env (drop l.guard-index l.guards) (drop l.named l.spans)) (spans_of l.state l.fact l.env l.guards l.spans);
  within : l.named ≤ length l.spans;
}
