use Rattle.std.proofs.Common.{refl, arith}
use Rattle.std.proofs.lemmas.Result.{on_ok_weaker, on_err_weaker}
use Rattle.cap_prog.specs.Views.{program_view}
use Rattle.cap_machine.specs.Changes.{entered, with_top}
use Rattle.cap_machine.proofs.MachineLemmas.{is_there, has_frames, are_placed, changed, kept}
use Rattle.cap_machine.proofs.machine.Machine.enter.Goals as goal

pub index_mut-requires : goal.index_mut-requires
index_mut-requires c = omega (arith, is_there c.args.self.now c.args.thread c.requires.top, c.args.self.now.threads.ok)

pub enter-requires-clause-some : goal.enter-requires-clause-some
enter-requires-clause-some c = has_frames c.args.self.now c.args.thread c.index_mut.result.now c.requires.top c.index_mut.ensures.value

pub enter-requires-clause-placed : goal.enter-requires-clause-placed
enter-requires-clause-placed c = are_placed (program_view c.args.program.now) c.args.self.now c.args.thread c.index_mut.result.now c.requires c.index_mut.ensures.value

pub returns-clause-entered : goal.returns-clause-entered
returns-clause-entered c =
    on_ok_weaker c.enter.result (λ v. changed (program_view c.args.program.now) c.args.self.now c.args.thread (with_top (entered c.args.side)) c.index_mut.result.now c.enter.new.frames _ c.requires c.index_mut.ensures.value refl v c.enter.ensures.placed) c.enter.ensures.entered

pub returns-clause-kept : goal.returns-clause-kept
returns-clause-kept c =
    on_err_weaker c.enter.result (λ v. kept (program_view c.args.program.now) c.args.self.now c.args.thread c.index_mut.result.now c.enter.new.frames _ c.requires c.index_mut.ensures.value refl v c.enter.ensures.placed) c.enter.ensures.same
