use Rattle.std.proofs.Common.{filter}
use Rattle.cap_rules.specs.Closing.{is_indexed}
use Rattle.cap_offer_spec.specs.Shifting.{spans_found}
use Rattle.cap_offer.proofs.Spans.{LeftOf, spans_from}
use Rattle.cap_offer.proofs.shifting.spans_found.Given as goal

abbrev pub invariant-loop-guard : goal.invariant-loop-guard
invariant-loop-guard l =
    LeftOf (spans_found l.state l.fact l.env (filter is_indexed l.guards) l.fn.notes) l.spans.items (spans_from l.state l.fact l.env l.guards l.guard-index l.notes)
