use Rattle.std.proofs.Common.{◌∙◌, ap, sym}
use Rattle.std.proofs.lemmas.Result.{err_from_is_err_and}
use Rattle.cap_prog.specs.Views.{program_view}
use Rattle.cap_machine.specs.View.{configuration}
use Rattle.cap_machine.proofs.MachineLemmas.{has_top}
use Rattle.cap_machine.specs.declared.event.Event.TheVariants.{Failed}
use Rattle.cap_machine.specs.Machine.{fault}
use Rattle.cap_machine.proofs.ActLemmas.{left_below, right_below, err_steps, no_base, can_change, passed_ok, fault_ok, fault_places, heap_is}
use Rattle.cap_machine.proofs.StepLemmas.{where_true, where_false}
use Rattle.cap_machine.proofs.machine.Machine.check.Goals as goal

pub store-requires : goal.store-requires
store-requires c = let r = c.requires.0.1 in has_top _ _ _ _ _ r.there

pub holds-requires-clause-left : goal.holds-requires-clause-left
holds-requires-clause-left c = let r = c.requires.0.1 in rw (c.store.ensures _ _ _ r.there) (left_below r.function r.frame.store c.args.comparison.now r.store r.act)

pub holds-requires-clause-right : goal.holds-requires-clause-right
holds-requires-clause-right c = let r = c.requires.0.1 in rw (c.store.ensures _ _ _ r.there) (right_below r.function r.frame.store c.args.comparison.now r.store r.act)

pub returns-in_err-holds-clause-steps : goal.returns-in_err-holds-clause-steps
returns-in_err-holds-clause-steps c =
    let r = c.requires.0.1 in
    let p = err_from_is_err_and c.from_residual.result c.from_residual.ensures.1 in
    let x = rw (c.store.ensures _ _ _ r.there) at c.in_err-holds.ensures in
    rw (p.1, p.2) (err_steps (program_view c.args.program.now) c.args.self.now c.args.entry.now _ r _ (no_base _ r.base) (x))

pub pass-requires : goal.pass-requires
pass-requires c = can_change _ _ _ _ c.requires.0.1

pub returns-then-branch-clause-steps : goal.returns-then-branch-clause-steps
returns-then-branch-clause-steps c =
    let r = c.requires.0.1 in
    let i = rw (c.store.ensures _ _ _ r.there) at c.in_ok-holds.ensures in
    passed_ok (program_view c.args.program.now) c.args.self.now c.pass.new.self c.args.self.now.heap c.args.entry.now _ r _ (configuration (program_view c.args.program.now) c.args.self.now).heap i.0 (where_true _ _ _ (sym i.1 ∙ c.if-branch.true)) (heap_is (program_view c.args.program.now) c.args.self.now) c.pass.ensures

pub returns-else-branch-clause-steps : goal.returns-else-branch-clause-steps
returns-else-branch-clause-steps c =
    let r = c.requires.0.1 in
    let i = rw (c.store.ensures _ _ _ r.there) at c.in_ok-holds.ensures in
    fault_ok (program_view c.args.program.now) c.args.self.now c.args.entry.now _ r _ i.0 (where_false _ _ _ (sym i.1 ∙ c.if-branch.false) ∙ ap (λ x. fault (Failed x)) c.requires.1)

pub returns-else-branch-clause-places : goal.returns-else-branch-clause-places
returns-else-branch-clause-places c = fault_places (program_view c.args.program.now) c.args.self.now (let r = c.requires.0.1 in r.places)
