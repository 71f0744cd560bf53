use Rattle.std.proofs.Common.{refl, arith}
use Rattle.cap_prog.specs.Views.{program_view}
use Rattle.cap_machine.specs.Changes.{passed, with_top}
use Rattle.cap_machine.proofs.MachineLemmas.{is_there, has_frames, are_placed, changed}
use Rattle.cap_machine.proofs.machine.Machine.pass.Goals as goal

pub index_mut-requires : goal.index_mut-requires
index_mut-requires c = omega (arith, is_there c.args.self.now c.args.thread c.requires.top, c.args.self.now.threads.ok)

pub pass-requires-clause-some : goal.pass-requires-clause-some
pass-requires-clause-some c = has_frames c.args.self.now c.args.thread c.index_mut.result.now c.requires.top c.index_mut.ensures.value

pub pass-requires-clause-placed : goal.pass-requires-clause-placed
pass-requires-clause-placed c = are_placed (program_view c.args.program.now) c.args.self.now c.args.thread c.index_mut.result.now c.requires c.index_mut.ensures.value

pub returns : goal.returns
returns c = changed (program_view c.args.program.now) c.args.self.now c.args.thread (with_top passed) c.index_mut.result.now c.pass.new.frames _ c.requires c.index_mut.ensures.value refl c.pass.ensures.passed c.pass.ensures.placed
