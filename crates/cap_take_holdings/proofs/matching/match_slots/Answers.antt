use Rattle.std.proofs.Common.{arith, ◌<◌, ◌≤◌, length}
use Rattle.std.proofs.lemmas.List.{length-map}
use Rattle.std.proofs.lemmas.Result.{err_from_is_err_and}
use Rattle.cap_rules_steps.proofs.Listing.{claims-first}
use Rattle.cap_take_holdings.specs.Seen.{slots_view, lent_terms}
use Rattle.cap_take_holdings.proofs.Slotting.{slots-next, slots-fail, slots-short, slots-long, slots-end, member-seen}
use Rattle.cap_take_holdings.proofs.matching.match_slots.Goals as goal

pub loop-place-init : goal.loop-place-init
loop-place-init c = claims-first _ _

pub returns-then-place-terms : goal.returns-then-place-terms
returns-then-place-terms c =
    let h : c.loop-place.place < length (slots_view c.args.slots.now) = rw (length-map c.args.slots.now (λ x. x.now)) (omega arith) in
    let k : length (lent_terms c.args.terms.now) ≤ c.loop-place.place = rw (length-map c.args.terms.now (λ t. t.now)) (omega arith) in
    slots-short _ _ _ _ c.loop-place.place _ _ _ h k c.loop-place.invariant

pub returns-in_err-match_slot : goal.returns-in_err-match_slot
returns-in_err-match_slot c =
    let p = err_from_is_err_and c.from_residual.result c.from_residual.ensures.1 in
    let h : c.loop-place.place < length (slots_view c.args.slots.now) = rw (length-map c.args.slots.now (λ x. x.now)) (omega arith) in
    let k : c.loop-place.place < length (lent_terms c.args.terms.now) = rw (length-map c.args.terms.now (λ t. t.now)) (omega arith) in
    let e = member-seen (λ x. x.now) c.args.slots.now c.loop-place.place c.index-slots-place.result (omega arith) c.index-slots-place.is in
    let q = member-seen (λ t. t.now) c.args.terms.now c.loop-place.place c.index-terms-place.result (omega arith) c.index-terms-place.is in
    rw (p.1, p.2) (slots-fail _ _ _ _ c.loop-place.place _ _ _ _ _ _ _ h e k q c.in_err-match_slot.ensures c.loop-place.invariant)

pub loop-place-preserved : goal.loop-place-preserved
loop-place-preserved c =
    let h : c.loop-place.place < length (slots_view c.args.slots.now) = rw (length-map c.args.slots.now (λ x. x.now)) (omega arith) in
    let k : c.loop-place.place < length (lent_terms c.args.terms.now) = rw (length-map c.args.terms.now (λ t. t.now)) (omega arith) in
    let e = member-seen (λ x. x.now) c.args.slots.now c.loop-place.place c.index-slots-place.result (omega arith) c.index-slots-place.is in
    let q = member-seen (λ t. t.now) c.args.terms.now c.loop-place.place c.index-terms-place.result (omega arith) c.index-terms-place.is in
    slots-next _ _ _ _ _ c.loop-place.place _ _ _ _ _ _ h e k q c.in_ok-match_slot.ensures c.loop-place.invariant

pub returns-then-slots-terms : goal.returns-then-slots-terms
returns-then-slots-terms c =
    let h : length (slots_view c.args.slots.now) ≤ c.loop-place.place = rw (length-map c.args.slots.now (λ x. x.now)) (omega arith) in
    let k : c.loop-place.place < length (lent_terms c.args.terms.now) = rw (length-map c.args.terms.now (λ t. t.now)) (omega arith) in
    slots-long _ _ _ _ c.loop-place.place _ _ _ h k c.loop-place.invariant

pub returns : goal.returns
returns c =
    let h : length (slots_view c.args.slots.now) ≤ c.loop-place.place = rw (length-map c.args.slots.now (λ x. x.now)) (omega arith) in
    let k : length (lent_terms c.args.terms.now) ≤ c.loop-place.place = rw (length-map c.args.terms.now (λ t. t.now)) (omega arith) in
    slots-end _ _ _ _ c.loop-place.place _ _ _ h k c.loop-place.invariant
