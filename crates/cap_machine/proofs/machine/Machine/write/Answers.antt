use Rattle.std.proofs.Common.{rules, sym}
use Rattle.std.proofs.lemmas.Result.{err_from_is_err_and}
use mir.Val.{SFits}
use mir.Syntax.{w128}
use Rattle.std.proofs.lemmas.Int.{to_z-of_z}
use Rattle.cap_prog.specs.Views.{program_view}
use Rattle.cap_machine.specs.View.{configuration}
use Rattle.cap_machine.proofs.MachineLemmas.{has_top}
use Rattle.std.specs.FinMap.{insert}
use Rattle.cap_machine.specs.Machine.{value_in}
use Rattle.cap_machine.proofs.ValueLemmas.{explained_front, explained_back, narrow_both}
use Rattle.cap_machine.proofs.ActLemmas.{value_below, err_steps, no_base, can_change_over, passed_ok, fault_ok, fault_places, heap_is}
use Rattle.cap_machine.proofs.StepLemmas.{cell_absent, cell_found}
use Rattle.cap_machine.proofs.machine.Machine.write.Goals as goal

pub store-store-requires : goal.store-store-requires
store-store-requires c = let r = c.requires.1 in has_top _ _ _ _ _ r.there

pub evaluate-requires : goal.evaluate-requires
evaluate-requires c = let r = c.requires.1 in rw (c.store-store.ensures _ _ _ r.there) (value_below r.function r.frame.store c.args.address.now r.store r.act.0)

pub evaluate-requires-2 : goal.evaluate-requires-2
evaluate-requires-2 c = let r = c.requires.1 in rw (c.store-store.ensures _ _ _ r.there) (value_below r.function r.frame.store c.args.term.now r.store r.act.1)

pub returns-in_err-cell-clause-steps : goal.returns-in_err-cell-clause-steps
returns-in_err-cell-clause-steps c =
    let r = c.requires.1 in
    let p = err_from_is_err_and c.from_residual.result c.from_residual.ensures.1 in
    let x = rw (c.store-store.ensures _ _ _ r.there) at c.in_err-cell.ensures in
    rw (p.1, p.2) (err_steps (program_view c.args.program.now) c.args.self.now c.args.entry.now _ r _ (no_base _ r.base) (explained_front _ _ _ x))

pub returns-in_err-value-clause-steps : goal.returns-in_err-value-clause-steps
returns-in_err-value-clause-steps c =
    let r = c.requires.1 in
    let p = err_from_is_err_and c.from_residual-in_err-value.result c.from_residual-in_err-value.ensures.1 in
    let i = rw (c.store-store.ensures _ _ _ r.there) at c.in_ok-cell.ensures in
    let x = rw (c.store-store.ensures _ _ _ r.there) at c.in_err-value.ensures in
    rw (p.1, p.2) (err_steps (program_view c.args.program.now) c.args.self.now c.args.entry.now _ r _ (no_base _ r.base) (explained_back _ _ _ i.0 x))

pub pass-requires : goal.pass-requires
pass-requires c = can_change_over (program_view c.args.program.now) c.args.self.now c.write.new.self c.args.entry.now _ c.requires.1

pub returns-in-None-clause-steps : goal.returns-in-None-clause-steps
returns-in-None-clause-steps c =
    let r = c.requires.1 in
    let f : SFits w128 c.in_ok-cell.cell = search rules in
    let i = rw (c.store-store.ensures _ _ _ r.there) at c.in_ok-cell.ensures in
    let j = rw (c.store-store.ensures _ _ _ r.there) at c.in_ok-value.ensures in
    let n = rw (to_z-of_z w128 _ f) at c.in-None.ensures in
    rw (to_z-of_z w128 _ f) (fault_ok (program_view c.args.program.now) c.args.self.now c.args.entry.now _ r _ (narrow_both _ _ i.0 j.0) (cell_absent _ c.in_ok-cell.cell c.args.self.now.heap _ _ i.1 n (heap_is (program_view c.args.program.now) c.args.self.now)))

pub returns-in-None-clause-places : goal.returns-in-None-clause-places
returns-in-None-clause-places c = fault_places (program_view c.args.program.now) c.args.self.now (let r = c.requires.1 in r.places)

pub returns-in-Some-clause-steps : goal.returns-in-Some-clause-steps
returns-in-Some-clause-steps c =
    let r = c.requires.1 in
    let f : SFits w128 c.in_ok-cell.cell = search rules in
    let g : SFits w128 c.in_ok-value.value = search rules in
    let i = rw (c.store-store.ensures _ _ _ r.there) at c.in_ok-cell.ensures in
    let j = rw (c.store-store.ensures _ _ _ r.there) at c.in_ok-value.ensures in
    let n = rw (to_z-of_z w128 _ f) at c.in-Some.ensures in
    let h = rw (to_z-of_z w128 _ f, to_z-of_z w128 _ g) at c.write.ensures in
    rw (to_z-of_z w128 _ f, to_z-of_z w128 _ g)
    (passed_ok (program_view c.args.program.now) c.args.self.now c.pass.new.self c.write.new.self c.args.entry.now _ r _ (insert (configuration (program_view c.args.program.now) c.args.self.now).heap (value_in r.frame.store c.args.address.now) (value_in r.frame.store c.args.term.now)) (narrow_both _ _ i.0 j.0) (rw (i.1, j.1) (cell_found _ c.in_ok-cell.cell _ c.args.self.now.heap _ _ i.1 n (heap_is (program_view c.args.program.now) c.args.self.now))) (rw (heap_is (program_view c.args.program.now) c.args.self.now, ← i.1, ← j.1) (sym h)) c.pass.ensures)
