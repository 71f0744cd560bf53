use Rattle.std.proofs.Common.{◌≡◌, drop}
use Rattle.cap_offer_spec.specs.Shifting.{first_span}
use Rattle.cap_offer.proofs.shifting.first_span.Given as goal

abbrev pub invariant-loop-number : goal.invariant-loop-number
invariant-loop-number l =
    let whole = first_span l.state l.fact l.env l.guard 0 l.state.before l.fn.notes in
    let rest = first_span l.state l.fact l.env l.guard l.number (drop l.number l.state.before) l.notes in
    (whole.value ≡ rest.value) × (whole.notes ≡ rest.notes)
