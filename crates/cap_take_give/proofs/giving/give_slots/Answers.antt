use Rattle.std.proofs.Common.{arith}
use Rattle.std.proofs.lemmas.Result.{err_from_is_err_and}
use Rattle.cap_rules.specs.Giving.{give_slots}
use Rattle.cap_take_give.proofs.Slots.{given-first, given-next, given-fail, given-end}
use Rattle.cap_take_give.proofs.giving.give_slots.Goals as goal

pub loop-slot-init : goal.loop-slot-init
loop-slot-init c = rw c.new-terms.ensures.items (given-first (give_slots c.args.state.now c.args.env c.args.slots.now))

pub returns-in_err-give_slot : goal.returns-in_err-give_slot
returns-in_err-give_slot c =
    let p = err_from_is_err_and c.from_residual.result c.from_residual.ensures.1 in
    rw (p.1, p.2) (given-fail c.loop-slot.state c.args.env c.args.slots.now c.loop-slot.slot-index c.slot-item.result c.loop-slot.terms.items _ _ (omega arith) c.slot-item.is c.in_err-give_slot.ensures c.loop-slot.invariant)

pub loop-slot-preserved : goal.loop-slot-preserved
loop-slot-preserved c = rw c.in_ok-push.ensures.items (given-next c.loop-slot.state c.give_slot.new.state c.args.env c.args.slots.now c.loop-slot.slot-index c.slot-item.result _ c.loop-slot.terms.items _ (omega arith) c.slot-item.is c.in_ok-give_slot.ensures c.loop-slot.invariant)

pub returns : goal.returns
returns c = given-end c.loop-slot.state c.args.env c.args.slots.now c.loop-slot.slot-index c.loop-slot.terms.items _ (omega arith) c.loop-slot.invariant
