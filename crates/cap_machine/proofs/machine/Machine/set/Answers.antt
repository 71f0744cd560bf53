use Rattle.std.proofs.Common.{rules, refl}
use mir.Val.{SFits}
use mir.Syntax.{w128}
use Rattle.std.proofs.lemmas.Int.{to_z-of_z}
use Rattle.cap_prog.specs.Views.{program_view}
use Rattle.cap_machine.specs.View.{configuration}
use Rattle.cap_machine.proofs.MachineLemmas.{has_top}
use Rattle.cap_machine.proofs.ActLemmas.{value_below, can_change, assigned_ok, heap_is}
use Rattle.cap_machine.proofs.machine.Machine.set.Goals as goal

pub store-requires : goal.store-requires
store-requires c = let r = c.requires.1 in has_top _ _ _ _ _ r.there

pub evaluate-requires : goal.evaluate-requires
evaluate-requires c = let r = c.requires.1 in rw (c.store.ensures _ _ _ r.there) (value_below r.function r.frame.store c.args.term.now r.store r.act.1)

pub assign-requires : goal.assign-requires
assign-requires c = can_change _ _ _ _ c.requires.1

pub returns-clause-steps : goal.returns-clause-steps
returns-clause-steps c =
    let r = c.requires.1 in
    let f : SFits w128 c.in_ok-value.value = search rules in
    let i = rw (c.store.ensures _ _ _ r.there) at c.in_ok-value.ensures in
    let h = rw (to_z-of_z w128 _ f) at c.assign.ensures in
    rw (to_z-of_z w128 _ f)
    (assigned_ok (program_view c.args.program.now) c.args.self.now c.assign.new.self c.args.self.now.heap c.args.entry.now _ r _ c.args.variable c.in_ok-value.value (configuration (program_view c.args.program.now) c.args.self.now).heap i.0 (rw i.1 refl) (heap_is _ c.args.self.now) h)
