use Rattle.std.proofs.Common.{refl}
use Rattle.cap_prog.specs.Views.{program_view}
use Rattle.std.proofs.Common.{arith, ◌∷◌}
use Rattle.std.proofs.lemmas.Result.{on_ok_weaker, on_err_weaker}
use Rattle.cap_machine.specs.View.{frame_view}
use Rattle.cap_machine.specs.Changes.{passed, with_top}
use Rattle.cap_machine.proofs.MachineLemmas.{is_there, has_frames, are_placed, changed, kept}
use Rattle.cap_machine.proofs.machine.Machine.push.Goals as goal

pub index_mut-requires : goal.index_mut-requires
index_mut-requires c = omega (arith, is_there c.args.self.now c.args.thread c.requires.can.top, c.args.self.now.threads.ok)

pub call-requires-clause-some : goal.call-requires-clause-some
call-requires-clause-some c = has_frames c.args.self.now c.args.thread c.index_mut.result.now c.requires.can.top c.index_mut.ensures.value

pub call-requires-clause-placed : goal.call-requires-clause-placed
call-requires-clause-placed c = are_placed (program_view c.args.program.now) c.args.self.now c.args.thread c.index_mut.result.now c.requires.can c.index_mut.ensures.value

pub returns-clause-pushed : goal.returns-clause-pushed
returns-clause-pushed c = on_ok_weaker c.call.result (λ v. changed (program_view c.args.program.now) c.args.self.now c.args.thread (λ fs. frame_view (program_view c.args.program.now) c.args.callee ∷ with_top passed fs) c.index_mut.result.now c.call.new.frames _ c.requires.can c.index_mut.ensures.value refl v c.call.ensures.placed) c.call.ensures.called

pub returns-clause-kept : goal.returns-clause-kept
returns-clause-kept c = on_err_weaker c.call.result (λ v. kept (program_view c.args.program.now) c.args.self.now c.args.thread c.index_mut.result.now c.call.new.frames _ c.requires.can c.index_mut.ensures.value refl v c.call.ensures.placed) c.call.ensures.same
