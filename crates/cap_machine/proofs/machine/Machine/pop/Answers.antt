use Rattle.std.proofs.Common.{◌∙◌, ap, refl}
use mir.Syntax.{w128}
use Rattle.std.proofs.lemmas.Int.{to_z-of_z}
use Rattle.cap_prog.specs.Views.{program_view}
use Rattle.std.proofs.Common.{arith}
use Rattle.cap_machine.specs.Changes.{returned, return_event}
use Rattle.cap_machine.proofs.MachineLemmas.{is_there, has_frames, are_placed, changed, lent_shows}
use Rattle.cap_machine.proofs.machine.Machine.pop.Goals as goal

pub index_mut-requires : goal.index_mut-requires
index_mut-requires c = omega (arith, is_there c.args.self.now c.args.thread c.requires.top, c.args.self.now.threads.ok)

pub give_back-requires : goal.give_back-requires
give_back-requires c = has_frames c.args.self.now c.args.thread c.index_mut.result.now c.requires.top c.index_mut.ensures.value

pub returns-clause-popped : goal.returns-clause-popped
returns-clause-popped c =
    let v = rw (to_z-of_z w128 _ c.ranges.value) at (c.give_back.ensures.returned (program_view c.args._program.now)) in
    changed (program_view c.args._program.now) c.args.self.now c.args.thread (returned c.args.value) c.index_mut.result.now c.give_back.new.frames _ c.requires c.index_mut.ensures.value refl v (c.give_back.ensures.placed (program_view c.args._program.now) (are_placed (program_view c.args._program.now) c.args.self.now c.args.thread c.index_mut.result.now c.requires c.index_mut.ensures.value))

pub returns-clause-event : goal.returns-clause-event
returns-clause-event c fs e =
    let v = rw (to_z-of_z w128 _ c.ranges.value) at (c.give_back.ensures.event (program_view c.args._program.now)) in
    v ∙ ap (return_event c.args.value) (lent_shows (program_view c.args._program.now) c.args.self.now c.args.thread c.index_mut.result.now fs c.requires.top c.index_mut.ensures.value e)
