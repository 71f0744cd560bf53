use Rattle.std.proofs.Common.{rules, ◌∙◌, ap, sym}
use Rattle.std.specs.Prelude.{◌≡◌, pos, ◌+ℤ◌, ◌-◌, false, true}
use mir.Val.{SFits}
use mir.Syntax.{w128}
use Rattle.std.proofs.lemmas.Int.{to_z-of_z}
use Rattle.cap_lin.specs.Steps.{fits}
use Rattle.cap_prog.specs.Views.{program_view}
use Rattle.cap_machine.specs.declared.event.StepError.TheVariants.{Wide}
use Rattle.cap_machine.specs.Machine.{with_cells}
use Rattle.cap_machine.specs.View.{configuration}
use Rattle.cap_machine.proofs.ActLemmas.{spot, err_steps, can_change_over, assigned_ok, heap_is}
use Rattle.cap_machine.proofs.ReadyLemmas.{last_fits, allocation_narrow, free_at, allocates_at}
use Rattle.cap_machine.proofs.machine.Machine.allocate.Goals as goal

pub returns-then-is_none-clause-steps : goal.returns-then-is_none-clause-steps
returns-then-is_none-clause-steps c =
    let r = c.requires.1 in
    let f : SFits w128 c.in-Some.base = search rules in
    let g : SFits w128 c.from.result = search rules in
    let s = rw (to_z-of_z w128 _ f, to_z-of_z w128 _ g) at c.checked_add.ensures in
    let n : fits (c.in-Some.base +ℤ pos (c.args.count - 1)) ≡ false = last_fits _ c.in-Some.base c.from.result _ c.args.count false s c.from.ensures c.if-is_none.ensures in
    err_steps (program_view c.args.program.now) c.args.self.now c.args.entry.now _ r Wide r.suits (allocation_narrow c.args.count _ c.in-Some.base false c.in-Some.is n)

pub allocate-requires-clause-free : goal.allocate-requires-clause-free
allocate-requires-clause-free c =
    let r = c.requires.1 in
    let f : SFits w128 c.in-Some.base = search rules in
    rw (to_z-of_z w128 _ f) (free_at (program_view c.args.program.now) c.args.self.now c.args.variable c.args.count _ c.in-Some.base r.suits c.in-Some.is)

pub assign-requires : goal.assign-requires
assign-requires c = can_change_over (program_view c.args.program.now) c.args.self.now c.allocate.new.self c.args.entry.now _ c.requires.1

pub returns-clause-steps : goal.returns-clause-steps
returns-clause-steps c =
    let p = program_view c.args.program.now in
    let r = c.requires.1 in
    let f : SFits w128 c.in-Some.base = search rules in
    let g : SFits w128 c.from.result = search rules in
    let s = rw (to_z-of_z w128 _ f, to_z-of_z w128 _ g) at c.checked_add.ensures in
    let n : fits (c.in-Some.base +ℤ pos (c.args.count - 1)) ≡ true = last_fits _ c.in-Some.base c.from.result _ c.args.count true s c.from.ensures c.if-is_none.ensures in
    let h = rw (to_z-of_z w128 _ f) at c.in_ok-allocate.ensures.ok in
    let a = rw (to_z-of_z w128 _ f) at c.assign.ensures in
    rw (to_z-of_z w128 _ f)
    (assigned_ok p c.args.self.now c.assign.new.self c.allocate.new.self c.args.entry.now _ r _ c.args.variable c.in-Some.base (with_cells (configuration p c.args.self.now).heap c.in-Some.base c.args.count) (allocation_narrow c.args.count _ c.in-Some.base true c.in-Some.is n) (allocates_at (spot p c.args.self.now c.args.entry.now _ r) r.rest c.args.variable c.args.count _ c.in-Some.base r.suits c.in-Some.is) (ap (λ k. with_cells k c.in-Some.base c.args.count) (heap_is p c.args.self.now) ∙ sym h) a)
