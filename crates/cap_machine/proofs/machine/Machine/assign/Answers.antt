use Rattle.std.proofs.Common.{refl, arith}
use mir.Syntax.{w128}
use Rattle.std.proofs.lemmas.Int.{to_z-of_z}
use Rattle.cap_prog.specs.Views.{program_view}
use Rattle.cap_machine.specs.Machine.{with_value}
use Rattle.cap_machine.specs.Changes.{passed, with_top}
use Rattle.cap_machine.proofs.MachineLemmas.{is_there, has_frames, are_placed, changed}
use Rattle.cap_machine.proofs.machine.Machine.assign.Goals as goal

pub index_mut-requires : goal.index_mut-requires
index_mut-requires c = omega (arith, is_there c.args.self.now c.args.thread c.requires.top, c.args.self.now.threads.ok)

pub assign-requires-clause-some : goal.assign-requires-clause-some
assign-requires-clause-some c = has_frames c.args.self.now c.args.thread c.index_mut.result.now c.requires.top c.index_mut.ensures.value

pub assign-requires-clause-placed : goal.assign-requires-clause-placed
assign-requires-clause-placed c = are_placed (program_view c.args.program.now) c.args.self.now c.args.thread c.index_mut.result.now c.requires c.index_mut.ensures.value

pub returns : goal.returns
returns c =
    let v = rw (to_z-of_z w128 _ c.ranges.value) at c.assign.ensures.assigned in
    changed (program_view c.args.program.now) c.args.self.now c.args.thread (with_top (λ f. with_value (passed f) c.args.variable c.args.value)) c.index_mut.result.now c.assign.new.frames _ c.requires c.index_mut.ensures.value refl v c.assign.ensures.placed
