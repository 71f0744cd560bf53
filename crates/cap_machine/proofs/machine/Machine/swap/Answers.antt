use Rattle.std.proofs.Common.{rules, ◌∙◌, ap, sym}
use Rattle.std.proofs.lemmas.Result.{err_from_is_err_and}
use mir.Val.{SFits}
use mir.Syntax.{w128}
use Rattle.std.proofs.lemmas.Int.{to_z-of_z}
use Rattle.cap_prog.specs.Views.{program_view}
use Rattle.cap_machine.specs.View.{configuration}
use Rattle.cap_machine.proofs.MachineLemmas.{has_top}
use Rattle.std.specs.FinMap.{insert}
use mir.Val.{of_z}
use Rattle.cap_machine.specs.Machine.{value_in}
use Rattle.cap_machine.proofs.ValueLemmas.{explained_front, explained_back, narrow_both}
use Rattle.cap_machine.proofs.ActLemmas.{value_below, err_steps, no_base, can_change, can_change_over, assigned_ok, fault_ok, fault_places, heap_is}
use Rattle.cap_machine.proofs.StepLemmas.{cell_absent, cell_found, same_compared, other_compared, where_true, where_false, same_number}
use Rattle.cap_machine.proofs.machine.Machine.swap.Goals as goal

pub store-store-requires : goal.store-store-requires
store-store-requires c = let r = c.requires.1 in has_top _ _ _ _ _ r.there

pub evaluate-requires : goal.evaluate-requires
evaluate-requires c = let r = c.requires.1 in rw (c.store-store.ensures _ _ _ r.there) (value_below r.function r.frame.store c.args.address.now r.store r.act.1)

pub evaluate-requires-2 : goal.evaluate-requires-2
evaluate-requires-2 c = let r = c.requires.1 in rw (c.store-store.ensures _ _ _ r.there) (value_below r.function r.frame.store c.args.old.now r.store r.act.2)

pub evaluate-requires-3 : goal.evaluate-requires-3
evaluate-requires-3 c = let r = c.requires.1 in rw (c.store-store.ensures _ _ _ r.there) (value_below r.function r.frame.store c.args.new.now r.store r.act.3)

pub returns-in_err-cell-clause-steps : goal.returns-in_err-cell-clause-steps
returns-in_err-cell-clause-steps c =
    let r = c.requires.1 in
    let p = err_from_is_err_and c.from_residual.result c.from_residual.ensures.1 in
    let x = rw (c.store-store.ensures _ _ _ r.there) at c.in_err-cell.ensures in
    rw (p.1, p.2) (err_steps (program_view c.args.program.now) c.args.self.now c.args.entry.now _ r _ (no_base _ r.base) (explained_front _ _ _ x))

pub returns-in_err-expected-clause-steps : goal.returns-in_err-expected-clause-steps
returns-in_err-expected-clause-steps c =
    let r = c.requires.1 in
    let p = err_from_is_err_and c.from_residual-in_err-expected.result c.from_residual-in_err-expected.ensures.1 in
    let i = rw (c.store-store.ensures _ _ _ r.there) at c.in_ok-cell.ensures in
    let x = rw (c.store-store.ensures _ _ _ r.there) at c.in_err-expected.ensures in
    rw (p.1, p.2) (err_steps (program_view c.args.program.now) c.args.self.now c.args.entry.now _ r _ (no_base _ r.base) (explained_back _ _ _ i.0 (explained_front _ _ _ x)))

pub returns-in_err-value-clause-steps : goal.returns-in_err-value-clause-steps
returns-in_err-value-clause-steps c =
    let r = c.requires.1 in
    let p = err_from_is_err_and c.from_residual-in_err-value.result c.from_residual-in_err-value.ensures.1 in
    let i = rw (c.store-store.ensures _ _ _ r.there) at c.in_ok-cell.ensures in
    let j = rw (c.store-store.ensures _ _ _ r.there) at c.in_ok-expected.ensures in
    let x = rw (c.store-store.ensures _ _ _ r.there) at c.in_err-value.ensures in
    rw (p.1, p.2) (err_steps (program_view c.args.program.now) c.args.self.now c.args.entry.now _ r _ (no_base _ r.base) (explained_back _ _ _ i.0 (explained_back _ _ _ j.0 x)))

pub assign-requires : goal.assign-requires
assign-requires c = can_change_over (program_view c.args.program.now) c.args.self.now c.write.new.self c.args.entry.now _ c.requires.1

pub assign-requires-else-found-expected : goal.assign-requires-else-found-expected
assign-requires-else-found-expected c = can_change _ _ _ _ c.requires.1

pub returns-in-None-clause-steps : goal.returns-in-None-clause-steps
returns-in-None-clause-steps c =
    let r = c.requires.1 in
    let f : SFits w128 c.in_ok-cell.cell = search rules in
    let i = rw (c.store-store.ensures _ _ _ r.there) at c.in_ok-cell.ensures in
    let j = rw (c.store-store.ensures _ _ _ r.there) at c.in_ok-expected.ensures in
    let k = rw (c.store-store.ensures _ _ _ r.there) at c.in_ok-value.ensures in
    let n = rw (to_z-of_z w128 _ f) at c.in-None.ensures in
    rw (to_z-of_z w128 _ f) (fault_ok (program_view c.args.program.now) c.args.self.now c.args.entry.now _ r _ (narrow_both _ _ i.0 (narrow_both _ _ j.0 k.0)) (cell_absent _ c.in_ok-cell.cell c.args.self.now.heap _ _ i.1 n (heap_is (program_view c.args.program.now) c.args.self.now)))

pub returns-in-None-clause-places : goal.returns-in-None-clause-places
returns-in-None-clause-places c = fault_places (program_view c.args.program.now) c.args.self.now (let r = c.requires.1 in r.places)

pub returns-then-found-expected-clause-steps : goal.returns-then-found-expected-clause-steps
returns-then-found-expected-clause-steps c =
    let r = c.requires.1 in
    let f : SFits w128 c.in_ok-cell.cell = search rules in
    let g : SFits w128 c.in_ok-value.value = search rules in
    let i = rw (c.store-store.ensures _ _ _ r.there) at c.in_ok-cell.ensures in
    let j = rw (c.store-store.ensures _ _ _ r.there) at c.in_ok-expected.ensures in
    let k = rw (c.store-store.ensures _ _ _ r.there) at c.in_ok-value.ensures in
    let n = rw (to_z-of_z w128 _ f) at c.in-Some.ensures in
    let h = rw (to_z-of_z w128 _ f, to_z-of_z w128 _ g) at c.write.ensures in
    let g1 : SFits w128 c.in-Some.found = search rules in
    let g2 : SFits w128 c.in_ok-expected.expected = search rules in
    let t = same_compared c.in-Some.found c.in_ok-expected.expected (same_number _ _ g1 g2 c.if-found-expected.true) in
    rw (to_z-of_z w128 _ f)
    (assigned_ok (program_view c.args.program.now) c.args.self.now c.assign.new.self c.write.new.self c.args.entry.now _ r _ c.args.variable _ (insert (configuration (program_view c.args.program.now) c.args.self.now).heap (value_in r.frame.store c.args.address.now) (value_in r.frame.store c.args.new.now)) (narrow_both _ _ i.0 (narrow_both _ _ j.0 k.0)) (rw i.1 (cell_found _ c.in_ok-cell.cell c.in-Some.found c.args.self.now.heap _ _ i.1 n (heap_is (program_view c.args.program.now) c.args.self.now) ∙ where_true _ _ _ (rw j.1 at t))) (rw (heap_is (program_view c.args.program.now) c.args.self.now, ← i.1, ← k.1) (sym h)) c.assign.ensures)

pub returns-else-found-expected-clause-steps : goal.returns-else-found-expected-clause-steps
returns-else-found-expected-clause-steps c =
    let r = c.requires.1 in
    let f : SFits w128 c.in_ok-cell.cell = search rules in
    let i = rw (c.store-store.ensures _ _ _ r.there) at c.in_ok-cell.ensures in
    let j = rw (c.store-store.ensures _ _ _ r.there) at c.in_ok-expected.ensures in
    let k = rw (c.store-store.ensures _ _ _ r.there) at c.in_ok-value.ensures in
    let n = rw (to_z-of_z w128 _ f) at c.in-Some.ensures in
    let t = other_compared c.in-Some.found c.in_ok-expected.expected (λ e. c.if-found-expected.false (ap (of_z w128) e)) in
    rw (to_z-of_z w128 _ f)
    (assigned_ok (program_view c.args.program.now) c.args.self.now c.assign-else-found-expected.new.self c.args.self.now.heap c.args.entry.now _ r _ c.args.variable _ (configuration (program_view c.args.program.now) c.args.self.now).heap (narrow_both _ _ i.0 (narrow_both _ _ j.0 k.0)) (rw i.1 (cell_found _ c.in_ok-cell.cell c.in-Some.found c.args.self.now.heap _ _ i.1 n (heap_is (program_view c.args.program.now) c.args.self.now) ∙ where_false _ _ _ (rw j.1 at t))) (heap_is (program_view c.args.program.now) c.args.self.now) c.assign-else-found-expected.ensures)
