use Rattle.std.proofs.Common.{arith}
use Rattle.std.proofs.lemmas.Result.{err_from_is_err_and}
use Rattle.cap_rules.specs.Attempts.{each}
use Rattle.cap_rules.specs.Making.{determined_slot, env_at}
use Rattle.cap_rules_steps.proofs.Walking.{done}
use Rattle.cap_rules_steps.proofs.Listing.{gather-first, gather-next, gather-fail, gather-end}
use Rattle.cap_take_facts.proofs.Lists.{each-gathers}
use Rattle.cap_take_create.proofs.created.slot_values.Goals as goal

pub loop-slot-init : goal.loop-slot-init
loop-slot-init c = rw c.new-values.ensures.items (gather-first (each (determined_slot (env_at c.args.state.now c.args.env))) c.args.slots.now)

pub returns-in_err-determined_slot_at : goal.returns-in_err-determined_slot_at
returns-in_err-determined_slot_at c =
    let p = err_from_is_err_and c.from_residual.result c.from_residual.ensures.1 in
    let value = determined_slot (env_at c.args.state.now c.args.env) in
    rw (p.1, p.2) (gather-fail (each value) value (each-gathers value) c.args.slots.now c.loop-slot.slot-index c.slot-item.result c.loop-slot.values.items _ _ (omega arith) c.slot-item.is c.in_err-determined_slot_at.ensures c.loop-slot.invariant)

pub loop-slot-preserved : goal.loop-slot-preserved
loop-slot-preserved c =
    let value = determined_slot (env_at c.args.state.now c.args.env) in
    rw c.in_ok-push.ensures.items (gather-next (each value) value (each-gathers value) c.args.slots.now c.loop-slot.slot-index c.slot-item.result _ c.loop-slot.values.items _ (omega arith) c.slot-item.is c.in_ok-determined_slot_at.ensures c.loop-slot.invariant)

pub returns : goal.returns
returns c = gather-end (each (determined_slot (env_at c.args.state.now c.args.env))) c.args.slots.now c.loop-slot.slot-index c.loop-slot.values.items _ (omega arith) (done _) c.loop-slot.invariant
