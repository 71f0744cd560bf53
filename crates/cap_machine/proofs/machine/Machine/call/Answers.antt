use Rattle.std.proofs.Common.{refl}
use Rattle.std.proofs.lemmas.Result.{err_from_is_err_and}
use Rattle.cap_prog.specs.Views.{program_view}
use Rattle.cap_machine.proofs.MachineLemmas.{has_top, below_length}
use Rattle.cap_machine.proofs.StartLemmas.{some_is}
use Rattle.std.specs.Prelude.{slice_get}
use Rattle.cap_machine.proofs.ActLemmas.{all_below, err_steps, no_base, can_change, kept_memory}
use Rattle.cap_machine.proofs.StepLemmas.{called_ok}
use Rattle.cap_machine.proofs.machine.Machine.call.Goals as goal

pub store-requires : goal.store-requires
store-requires c = let r = c.requires.1 in has_top _ _ _ _ _ r.there

pub evaluate_all-requires : goal.evaluate_all-requires
evaluate_all-requires c = let r = c.requires.1 in rw (c.store.ensures _ _ _ r.there) (all_below r.function r.frame.store c.args.args.now r.store r.act.1.values)

pub returns-in_err-values-clause-steps : goal.returns-in_err-values-clause-steps
returns-in_err-values-clause-steps c =
    let r = c.requires.1 in
    let p = err_from_is_err_and c.from_residual.result c.from_residual.ensures.1 in
    let x = rw (c.store.ensures _ _ _ r.there) at c.in_err-values.ensures in
    rw (p.1, p.2) (err_steps (program_view c.args.program.now) c.args.self.now c.args.entry.now _ r _ (no_base _ r.base) x)

pub of-requires : goal.of-requires
of-requires c = let r = c.requires.1 in below_length (program_view c.args.program.now).functions c.args.function _ r.act.1.arity

pub push-requires-clause-can : goal.push-requires-clause-can
push-requires-clause-can c = can_change _ _ _ _ c.requires.1

pub returns-in_err-push-clause-steps : goal.returns-in_err-push-clause-steps
returns-in_err-push-clause-steps c =
    let p = err_from_is_err_and c.from_residual-in_err-push.result c.from_residual-in_err-push.ensures.1 in
    rw (p.1, p.2) (kept_memory (program_view c.args.program.now) c.args.self.now c.push.new.self c.args.entry.now c.in_err-push.ensures.kept)

pub returns-clause-steps : goal.returns-clause-steps
returns-clause-steps c =
    let r = c.requires.1 in
    let i = rw (c.store.ensures _ _ _ r.there) at c.in_ok-values.ensures in
    let g = some_is (slice_get (program_view c.args.program.now).functions c.args.function) _ r.act.1.arity in
    called_ok (program_view c.args.program.now) c.args.self.now c.push.new.self c.args.entry.now _ r _ c.args.function g.0 c.in_ok-values.values.items c.args.destination i.0 (rw i.1 refl) g.1 (c.in_ok-callee.ensures.begins g.0 g.1) c.in_ok-push.ensures.pushed
