use Rattle.std.proofs.Common.{rules, ap, sym, ◌∙◌}
use mir.Val.{SFits}
use mir.Syntax.{w128}
use Rattle.std.proofs.lemmas.Int.{to_z-of_z}
use Rattle.cap_prog.specs.Views.{program_view}
use Rattle.cap_owners_places.specs.Views.{proved_of}
use Rattle.cap_owners_values.proofs.Tracing.{traces_same}
use Rattle.cap_owners.specs.Moves.{caller_stands, ending_view, moved_view, stands_on}
use Rattle.cap_owners.specs.Tracks.{frame_view, frames_view}
use Rattle.cap_owners.proofs.Stacking.{popped-placed, pushed-seen}
use Rattle.cap_owners.proofs.moves.caller_stands.Goals as goal

pub stand_on-requires-clause-top : goal.stand_on-requires-clause-top
stand_on-requires-clause-top c =
    let p = program_view c.args.program.now in
    c.in_ok-caller-in-Some.ensures.placed p c.requires.roots.0 c.requires.roots.1
    (popped-placed p c.args.below.items c.pop.new.self.items c.in-Some.caller c.in-Some.ensures.items c.requires.below).1

pub returns-in_ok-caller-in-Some-clause-stands : goal.returns-in_ok-caller-in-Some-clause-stands
returns-in_ok-caller-in-Some-clause-stands c = λ ts m are sees.
    let p = program_view c.args.program.now in
    let d = proved_of p ts in
    let fits : SFits w128 c.args.returning.1 = search rules in
    let rest = frames_view c.pop.new.self.items in
    traces_same c.stand_on.result moved_view _ (stands_on d c.args.ending.regions (frame_view c.in_ok-caller-in-Some.caller) rest)
    (ap (λ fs. caller_stands d m c.args.fixed.now c.args.returning.1 fs (ending_view c.args.ending)) (pushed-seen c.pop.new.self.items c.args.below.items c.in-Some.caller c.in-Some.ensures.items)
    ∙ ap (λ f. stands_on d c.args.ending.regions f rest) (sym (rw (to_z-of_z w128 _ fits) at (c.in_ok-caller-in-Some.ensures.received p ts m are sees))))
    (c.stand_on.ensures.stands ts are)
