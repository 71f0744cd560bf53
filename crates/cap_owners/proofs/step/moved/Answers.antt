use Rattle.std.proofs.Common.{rules, ◌≡◌, ◌∙◌, ap, sym}
use mir.Val.{SFits}
use mir.Syntax.{w128}
use Rattle.std.proofs.lemmas.Int.{to_z-of_z}
use Rattle.cap_prog.specs.Views.{program_view}
use Rattle.cap_machine.specs.declared.event.Event.TheVariants.{Return, End}
use Rattle.cap_machine.specs.View.{configuration}
use Rattle.cap_owners_places.specs.Views.{proved_of}
use Rattle.cap_owners_values.proofs.Tracing.{traces_same}
use Rattle.cap_owners.specs.Moves.{moved_view, moves}
use Rattle.cap_owners.specs.Tracks.{frame_view, frames_view}
use Rattle.cap_owners.proofs.step.moved.Goals as goal

pub returns-in-Return-clause-moves : goal.returns-in-Return-clause-moves
returns-in-Return-clause-moves c = λ ts m are sees.
    let p = program_view c.args.program.now in
    let x = c.args.stepped in
    let f : SFits w128 c.in-Return.value = search rules in
    let is : x.event ≡ Return c.in-Return.value = c.in-Return.is in
    traces_same c.returns.result moved_view _ _
    (ap (moves (proved_of p ts) c.args.regions (frame_view c.args.frames.0) (frames_view c.args.frames.1.items) m (configuration p x.machine.now) x.thread) (is ∙ ap Return (sym (to_z-of_z w128 c.in-Return.value f))))
    (c.returns.ensures.returns ts m are sees)

pub returns-in-End-clause-moves : goal.returns-in-End-clause-moves
returns-in-End-clause-moves c = λ ts m are sees.
    let p = program_view c.args.program.now in
    let x = c.args.stepped in
    let f : SFits w128 c.in-End.value = search rules in
    let is : x.event ≡ End c.in-End.value = c.in-End.is in
    traces_same c.returns-in-End.result moved_view _ _
    (ap (moves (proved_of p ts) c.args.regions (frame_view c.args.frames.0) (frames_view c.args.frames.1.items) m (configuration p x.machine.now) x.thread) (is ∙ ap End (sym (to_z-of_z w128 c.in-End.value f))))
    (c.returns-in-End.ensures.returns ts m are sees)
