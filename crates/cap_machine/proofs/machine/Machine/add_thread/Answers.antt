use Rattle.std.proofs.Common.{refl}
use Rattle.cap_prog.specs.Views.{program_view}
use Rattle.cap_machine.proofs.MachineLemmas.{threads_same, thread_added}
use Rattle.cap_machine.proofs.StepLemmas.{on_err}
use Rattle.cap_machine.proofs.machine.Machine.add_thread.Goals as goal

pub returns-in_err-push-2-clause-kept : goal.returns-in_err-push-2-clause-kept
returns-in_err-push-2-clause-kept c = on_err c.from_residual-in_err-push-2.result _ (threads_same (program_view c.args._program.now) c.args.self.now c.push-2.new.self c.in_err-push-2.ensures.items c.requires.places)

pub returns-clause-added : goal.returns-clause-added
returns-clause-added c = thread_added (program_view c.args._program.now) c.args.self.now c.push-2.new.self c.push.new.self c.args.first c.in_ok-push-2.ensures.items (rw (c.in_ok-push.ensures.items, c.new-frames.ensures.items) refl) c.requires.places c.requires.first
