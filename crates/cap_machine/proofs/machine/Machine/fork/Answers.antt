use Rattle.std.proofs.Common.{refl}
use Rattle.std.proofs.lemmas.Result.{err_from_is_err_and}
use Rattle.cap_prog.specs.Views.{program_view}
use Rattle.cap_machine.proofs.MachineLemmas.{has_top, below_length, thread_count}
use Rattle.cap_machine.proofs.StartLemmas.{some_is}
use Rattle.std.proofs.Common.{arith}
use Rattle.std.specs.Prelude.{slice_get}
use Rattle.cap_machine.proofs.ActLemmas.{all_below, err_steps, no_base, kept_memory}
use Rattle.cap_machine.proofs.StepLemmas.{forked_ok, can_change_more}
use Rattle.cap_machine.proofs.machine.Machine.fork.Goals as goal

pub store-requires : goal.store-requires
store-requires c = let r = c.requires.ready.1 in has_top _ _ _ _ _ r.there

pub evaluate_all-requires : goal.evaluate_all-requires
evaluate_all-requires c = let r = c.requires.ready.1 in rw (c.store.ensures _ _ _ r.there) (all_below r.function r.frame.store c.args.args.now r.store r.act.values)

pub returns-in_err-values-clause-steps : goal.returns-in_err-values-clause-steps
returns-in_err-values-clause-steps c =
    let r = c.requires.ready.1 in
    let p = err_from_is_err_and c.from_residual.result c.from_residual.ensures.1 in
    let x = rw (c.store.ensures _ _ _ r.there) at c.in_err-values.ensures in
    rw (p.1, p.2) (err_steps (program_view c.args.program.now) c.args.self.now c.args.entry.now _ r _ (no_base _ r.base) x)

pub of-requires : goal.of-requires
of-requires c = let r = c.requires.ready.1 in below_length (program_view c.args.program.now).functions c.args.function _ r.act.arity

pub pass-requires : goal.pass-requires
pass-requires c = can_change_more (program_view c.args.program.now) c.args.self.now c.add_thread.new.self c.args.entry.now _ c.requires.ready.1 _ c.in_ok-add_thread.ensures.added

pub add_thread-requires-clause-places : goal.add_thread-requires-clause-places
add_thread-requires-clause-places c = let r = c.requires.ready.1 in r.places

pub returns-in_err-add_thread-clause-steps : goal.returns-in_err-add_thread-clause-steps
returns-in_err-add_thread-clause-steps c =
    let p = err_from_is_err_and c.from_residual-in_err-add_thread.result c.from_residual-in_err-add_thread.ensures.1 in
    rw (p.1, p.2) (kept_memory (program_view c.args.program.now) c.args.self.now c.add_thread.new.self c.args.entry.now c.in_err-add_thread.ensures.kept)

pub returns-clause-steps : goal.returns-clause-steps
returns-clause-steps c =
    let r = c.requires.ready.1 in
    let i = rw (c.store.ensures _ _ _ r.there) at c.in_ok-values.ensures in
    let g = some_is (slice_get (program_view c.args.program.now).functions c.args.function) _ r.act.arity in
    forked_ok (program_view c.args.program.now) c.args.self.now c.add_thread.new.self c.pass.new.self c.args.entry.now _ r _ c.args.function _ g.0 c.in_ok-values.values.items i.0 (rw i.1 refl) g.1 (c.in_ok-first.ensures.begins g.0 g.1) c.in_ok-add_thread.ensures.added c.pass.ensures (omega (arith, thread_count (program_view c.args.program.now) c.args.self.now, c.len-number.ensures, c.args.self.now.threads.ok))

pub overflow_cast-number : goal.overflow_cast-number
overflow_cast-number c = omega (arith, thread_count (program_view c.args.program.now) c.args.self.now, c.len-number.ensures, c.args.self.now.threads.ok, c.requires.room)
