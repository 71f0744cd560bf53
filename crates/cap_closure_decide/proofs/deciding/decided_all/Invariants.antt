use Rattle.std.proofs.Common.{◌≡◌, drop, map}
use Rattle.cap_offer_spec.specs.Deciding.{decided_all}
use Rattle.cap_closure_decide.proofs.Refuting.{in_front}
use Rattle.cap_closure_decide.proofs.deciding.decided_all.Given as goal

abbrev pub invariant-loop-rows : goal.invariant-loop-rows
invariant-loop-rows l =
    let whole = decided_all (map (λ rows. rows.items) l.fn.lists) l.fn.notes in
    let rest = decided_all (map (λ rows. rows.items) (drop l.rows-index l.fn.lists)) l.notes in
    (whole.value ≡ in_front l.certs.items rest.value) × (whole.notes ≡ rest.notes)
