use Rattle.std.proofs.Common.{rules, sym}
use mir.Val.{SFits}
use mir.Syntax.{w128}
use Rattle.std.proofs.lemmas.Int.{to_z-of_z}
use Rattle.cap_prog.specs.Views.{program_view}
use Rattle.cap_machine.specs.View.{configuration}
use Rattle.cap_machine.proofs.MachineLemmas.{has_top}
use Rattle.std.specs.FinMap.{remove}
use Rattle.cap_machine.specs.Machine.{value_in}
use Rattle.cap_machine.proofs.ActLemmas.{value_below, can_change_over, passed_ok, fault_ok, fault_places, heap_is}
use Rattle.cap_machine.proofs.StepLemmas.{cell_absent, cell_found}
use Rattle.cap_machine.proofs.machine.Machine.dispose.Goals as goal

pub store-requires : goal.store-requires
store-requires c = let r = c.requires.1 in has_top _ _ _ _ _ r.there

pub evaluate-requires : goal.evaluate-requires
evaluate-requires c = let r = c.requires.1 in rw (c.store.ensures _ _ _ r.there) (value_below r.function r.frame.store c.args.address.now r.store r.act)

pub pass-requires : goal.pass-requires
pass-requires c = can_change_over (program_view c.args.program.now) c.args.self.now c.remove.new.self c.args.entry.now _ c.requires.1

pub returns-in-None-clause-steps : goal.returns-in-None-clause-steps
returns-in-None-clause-steps c =
    let r = c.requires.1 in
    let f : SFits w128 c.in_ok-cell.cell = search rules in
    let i = rw (c.store.ensures _ _ _ r.there) at c.in_ok-cell.ensures in
    let n = rw (to_z-of_z w128 _ f) at c.in-None.ensures in
    rw (to_z-of_z w128 _ f) (fault_ok (program_view c.args.program.now) c.args.self.now c.args.entry.now _ r _ i.0 (cell_absent _ c.in_ok-cell.cell c.args.self.now.heap _ _ i.1 n (heap_is (program_view c.args.program.now) c.args.self.now)))

pub returns-in-None-clause-places : goal.returns-in-None-clause-places
returns-in-None-clause-places c = fault_places (program_view c.args.program.now) c.args.self.now (let r = c.requires.1 in r.places)

pub returns-in-Some-clause-steps : goal.returns-in-Some-clause-steps
returns-in-Some-clause-steps c =
    let r = c.requires.1 in
    let f : SFits w128 c.in_ok-cell.cell = search rules in
    let i = rw (c.store.ensures _ _ _ r.there) at c.in_ok-cell.ensures in
    let n = rw (to_z-of_z w128 _ f) at c.in-Some.ensures in
    let h = rw (to_z-of_z w128 _ f) at c.remove.ensures in
    rw (to_z-of_z w128 _ f)
    (passed_ok (program_view c.args.program.now) c.args.self.now c.pass.new.self c.remove.new.self c.args.entry.now _ r _ (remove (configuration (program_view c.args.program.now) c.args.self.now).heap (value_in r.frame.store c.args.address.now)) i.0 (rw i.1 (cell_found _ c.in_ok-cell.cell _ c.args.self.now.heap _ _ i.1 n (heap_is (program_view c.args.program.now) c.args.self.now))) (rw (heap_is (program_view c.args.program.now) c.args.self.now, ← i.1) (sym h)) c.pass.ensures)
