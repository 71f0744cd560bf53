use Rattle.std.proofs.Common.{rules, ◌∙◌, ap, sym}
use Rattle.std.specs.Prelude.{◌+ℤ◌, false, true}
use Rattle.std.proofs.lemmas.Result.{err_from_is_err_and}
use mir.Val.{SFits}
use mir.Syntax.{w128}
use Rattle.std.proofs.lemmas.Int.{to_z-of_z}
use Rattle.cap_prog.specs.Views.{program_view}
use Rattle.cap_machine.specs.View.{configuration}
use Rattle.cap_machine.proofs.MachineLemmas.{has_top}
use Rattle.std.specs.FinMap.{insert}
use Rattle.cap_lin.specs.Steps.{fits}
use Rattle.cap_machine.specs.declared.event.StepError.TheVariants.{Wide}
use Rattle.cap_machine.specs.Machine.{value_in}
use Rattle.cap_machine.proofs.ReadyLemmas.{sum_wide, sum_narrow, addition_narrow, no_addition}
use Rattle.cap_machine.proofs.StepLemmas.{cell_absent, cell_found, found_at}
use Rattle.cap_machine.proofs.ValueLemmas.{explained_front, explained_back, narrow_both}
use Rattle.cap_machine.proofs.ActLemmas.{value_below, err_steps, no_base, can_change_over, assigned_ok, fault_ok, fault_places, heap_is}
use Rattle.cap_machine.proofs.machine.Machine.fetch_add.Goals as goal

pub store-store-requires : goal.store-store-requires
store-store-requires c = let r = c.requires.1 in has_top _ _ _ _ _ r.there

pub evaluate-requires : goal.evaluate-requires
evaluate-requires c = let r = c.requires.1 in rw (c.store-store.ensures _ _ _ r.there) (value_below r.function r.frame.store c.args.address.now r.store r.act.1)

pub evaluate-requires-2 : goal.evaluate-requires-2
evaluate-requires-2 c = let r = c.requires.1 in rw (c.store-store.ensures _ _ _ r.there) (value_below r.function r.frame.store c.args.term.now r.store r.act.2)

pub returns-in_err-cell-clause-steps : goal.returns-in_err-cell-clause-steps
returns-in_err-cell-clause-steps c =
    let r = c.requires.1 in
    let p = err_from_is_err_and c.from_residual.result c.from_residual.ensures.1 in
    let x = rw (c.store-store.ensures _ _ _ r.there) at c.in_err-cell.ensures in
    rw (p.1, p.2) (err_steps (program_view c.args.program.now) c.args.self.now c.args.entry.now _ r _ (no_base _ r.base) (explained_front _ _ _ x))

pub returns-in_err-added-clause-steps : goal.returns-in_err-added-clause-steps
returns-in_err-added-clause-steps c =
    let r = c.requires.1 in
    let p = err_from_is_err_and c.from_residual-in_err-added.result c.from_residual-in_err-added.ensures.1 in
    let i = rw (c.store-store.ensures _ _ _ r.there) at c.in_ok-cell.ensures in
    let x = rw (c.store-store.ensures _ _ _ r.there) at c.in_err-added.ensures in
    rw (p.1, p.2) (err_steps (program_view c.args.program.now) c.args.self.now c.args.entry.now _ r _ (no_base _ r.base) (explained_back _ _ _ i.0 (explained_front _ _ _ x)))

pub assign-requires : goal.assign-requires
assign-requires c = can_change_over (program_view c.args.program.now) c.args.self.now c.write.new.self c.args.entry.now _ c.requires.1

pub returns-in-None-clause-places : goal.returns-in-None-clause-places
returns-in-None-clause-places c = fault_places (program_view c.args.program.now) c.args.self.now (let r = c.requires.1 in r.places)

pub returns-in_default-clause-steps : goal.returns-in_default-clause-steps
returns-in_default-clause-steps c =
    let p = program_view c.args.program.now in
    let r = c.requires.1 in
    let e : SFits w128 c.in_ok-cell.cell = search rules in
    let f : SFits w128 c.in-Some.found = search rules in
    let g : SFits w128 c.in_ok-added.added = search rules in
    let i = rw (c.store-store.ensures _ _ _ r.there) at c.in_ok-cell.ensures in
    let j = rw (c.store-store.ensures _ _ _ r.there) at c.in_ok-added.ensures in
    let n = rw (to_z-of_z w128 _ e) at c.in-Some.ensures in
    let w = rw (to_z-of_z w128 _ f, to_z-of_z w128 _ g) at c.in_default.ensures in
    let there = found_at _ c.in_ok-cell.cell c.args.self.now.heap (configuration p c.args.self.now).heap _ i.1 n (heap_is p c.args.self.now) in
    err_steps p c.args.self.now c.args.entry.now _ r Wide (no_base _ r.base)
    (explained_back Wide _ _ i.0 (explained_back Wide _ _ j.0 (addition_narrow _ c.in-Some.found _ false there (ap (λ d. fits (c.in-Some.found +ℤ d)) (sym j.1) ∙ sum_wide _ w))))

pub returns-in-None-clause-steps : goal.returns-in-None-clause-steps
returns-in-None-clause-steps c =
    let p = program_view c.args.program.now in
    let r = c.requires.1 in
    let e : SFits w128 c.in_ok-cell.cell = search rules in
    let i = rw (c.store-store.ensures _ _ _ r.there) at c.in_ok-cell.ensures in
    let j = rw (c.store-store.ensures _ _ _ r.there) at c.in_ok-added.ensures in
    let n = rw (to_z-of_z w128 _ e) at c.in-None.ensures in
    let there = found_at _ c.in_ok-cell.cell c.args.self.now.heap (configuration p c.args.self.now).heap _ i.1 n (heap_is p c.args.self.now) in
    rw (to_z-of_z w128 _ e) (fault_ok p c.args.self.now c.args.entry.now _ r _ (narrow_both _ _ i.0 (narrow_both _ _ j.0 (no_addition _ _ there))) (cell_absent _ c.in_ok-cell.cell c.args.self.now.heap _ _ i.1 n (heap_is p c.args.self.now)))

pub returns-in-Some-checked_add-clause-steps : goal.returns-in-Some-checked_add-clause-steps
returns-in-Some-checked_add-clause-steps c =
    let p = program_view c.args.program.now in
    let r = c.requires.1 in
    let e : SFits w128 c.in_ok-cell.cell = search rules in
    let f : SFits w128 c.in-Some.found = search rules in
    let g : SFits w128 c.in_ok-added.added = search rules in
    let q : SFits w128 c.in-Some-checked_add.sum = search rules in
    let i = rw (c.store-store.ensures _ _ _ r.there) at c.in_ok-cell.ensures in
    let j = rw (c.store-store.ensures _ _ _ r.there) at c.in_ok-added.ensures in
    let n = rw (to_z-of_z w128 _ e) at c.in-Some.ensures in
    let k = rw (to_z-of_z w128 _ f, to_z-of_z w128 _ g) at c.in-Some-checked_add.ensures in
    let h = rw (to_z-of_z w128 _ e, to_z-of_z w128 _ q) at c.write.ensures in
    let a = rw (to_z-of_z w128 _ f) at c.assign.ensures in
    let there = found_at _ c.in_ok-cell.cell c.args.self.now.heap (configuration p c.args.self.now).heap _ i.1 n (heap_is p c.args.self.now) in
    let at = value_in r.frame.store c.args.address.now in
    let by = value_in r.frame.store c.args.term.now in
    rw (to_z-of_z w128 _ e, to_z-of_z w128 _ f)
    (assigned_ok p c.args.self.now c.assign.new.self c.write.new.self c.args.entry.now _ r _ c.args.variable c.in-Some.found (insert (configuration p c.args.self.now).heap at (c.in-Some.found +ℤ by))
    (narrow_both _ _ i.0 (narrow_both _ _ j.0 (addition_narrow _ c.in-Some.found _ true there (ap (λ d. fits (c.in-Some.found +ℤ d)) (sym j.1) ∙ sum_narrow _ k.0))))
    (rw i.1 (cell_found _ c.in_ok-cell.cell c.in-Some.found c.args.self.now.heap _ _ i.1 n (heap_is p c.args.self.now)))
    (ap (λ m. insert m at (c.in-Some.found +ℤ by)) (heap_is p c.args.self.now) ∙ (ap (λ b. insert c.args.self.now.heap b (c.in-Some.found +ℤ by)) (sym i.1) ∙ (ap (λ d. insert c.args.self.now.heap c.in_ok-cell.cell (c.in-Some.found +ℤ d)) (sym j.1) ∙ (ap (λ d. insert c.args.self.now.heap c.in_ok-cell.cell d) (sym k.1) ∙ sym h))))
    a)
