use Rattle.std.proofs.Common.{ℕ, [], ap}
use Rattle.cap_prog.specs.Views.{program_view}
use Rattle.cap_goal.specs.Views.{goal_view}
use Rattle.cap_goal_spec.specs.Choices.{PlainChoice, by_clash}
use Rattle.cap_offer_spec.specs.Scanning.{first_tried}
use Rattle.cap_offer.proofs.Trials.{later-cells, next-fails, found-so}
use Rattle.cap_offer.proofs.clashing.first_clash_with.Goals as goal

pub loop-second-init : goal.loop-second-init
loop-second-init c =
    let a = c.args in
    let p = program_view a.program.now in
    let g = goal_view a.goal.now in
    let e = later-cells a.first a.cells in
    (ap (λ cs. (first_tried p g cs a.notes.now).value) e, ap (λ cs. (first_tried p g cs a.notes.now).notes) e)

pub loop-second-preserved : goal.loop-second-preserved
loop-second-preserved c =
    let a = c.args in
    let p = program_view a.program.now in
    let g = goal_view a.goal.now in
    let f : ℕ → PlainChoice = λ j. by_clash a.first j [] in
    let e = rw (c.new.ensures.items, c.in-None.is) at c.in_ok-found.ensures in
    found-so _ _ _ c.loop-second.invariant (next-fails p g f c.loop-second.second a.cells c.loop-second.notes c.tried.new.notes c.loop-second-test.true e)
