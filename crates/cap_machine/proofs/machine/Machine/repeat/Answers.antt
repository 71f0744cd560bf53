use Rattle.std.proofs.Common.{◌∙◌, sym}
use Rattle.std.proofs.lemmas.Result.{err_from_is_err_and}
use Rattle.cap_prog.specs.Views.{program_view}
use Rattle.cap_machine.specs.View.{configuration}
use Rattle.cap_machine.proofs.MachineLemmas.{has_top}
use Rattle.std.proofs.Common.{true}
use Rattle.cap_machine.proofs.ActLemmas.{left_below, right_below, err_steps, no_base, can_change, passed_ok, entered_ok, heap_is}
use Rattle.cap_machine.proofs.StepLemmas.{where_true, where_false}
use Rattle.cap_machine.proofs.machine.Machine.repeat.Goals as goal

pub store-requires : goal.store-requires
store-requires c = let r = c.requires.2.1 in has_top _ _ _ _ _ r.there

pub holds-requires-clause-left : goal.holds-requires-clause-left
holds-requires-clause-left c = let r = c.requires.2.1 in rw (c.store.ensures _ _ _ r.there) (left_below r.function r.frame.store c.args.comparison.now r.store r.act.0)

pub holds-requires-clause-right : goal.holds-requires-clause-right
holds-requires-clause-right c = let r = c.requires.2.1 in rw (c.store.ensures _ _ _ r.there) (right_below r.function r.frame.store c.args.comparison.now r.store r.act.0)

pub returns-in_err-holds-clause-steps : goal.returns-in_err-holds-clause-steps
returns-in_err-holds-clause-steps c =
    let r = c.requires.2.1 in
    let p = err_from_is_err_and c.from_residual.result c.from_residual.ensures.1 in
    let x = rw (c.store.ensures _ _ _ r.there) at c.in_err-holds.ensures in
    rw (p.1, p.2) (err_steps (program_view c.args.program.now) c.args.self.now c.args.entry.now _ r _ (no_base _ r.base) (x))

pub pass-requires : goal.pass-requires
pass-requires c = can_change _ _ _ _ c.requires.2.1

pub enter-requires : goal.enter-requires
enter-requires c = can_change _ _ _ _ c.requires.2.1

pub returns-in_ok-enter-clause-steps : goal.returns-in_ok-enter-clause-steps
returns-in_ok-enter-clause-steps c =
    let r = c.requires.2.1 in
    let i = rw (c.store.ensures _ _ _ r.there) at c.in_ok-holds.ensures in
    entered_ok (program_view c.args.program.now) c.args.self.now c.enter.new.self c.args.entry.now _ r _ true i.0 (where_true _ _ _ (sym i.1 ∙ c.if-branch.true)) c.in_ok-enter.ensures.entered

pub returns-else-branch-clause-steps : goal.returns-else-branch-clause-steps
returns-else-branch-clause-steps c =
    let r = c.requires.2.1 in
    let i = rw (c.store.ensures _ _ _ r.there) at c.in_ok-holds.ensures in
    passed_ok (program_view c.args.program.now) c.args.self.now c.pass.new.self c.args.self.now.heap c.args.entry.now _ r _ (configuration (program_view c.args.program.now) c.args.self.now).heap i.0 (where_false _ _ _ (sym i.1 ∙ c.if-branch.false)) (heap_is (program_view c.args.program.now) c.args.self.now) c.pass.ensures
