use Rattle.std.proofs.Common.{arith}
use Rattle.cap_prog.specs.Views.{program_view}
use Rattle.cap_goal.specs.Views.{goal_view, choice_view}
use Rattle.cap_offer_spec.specs.Listing.{clashes_with}
use Rattle.cap_offer.proofs.Trials.{part-fails, part-succeeds, no-part-left, found-so, found-first}
use Rattle.cap_offer.proofs.clashing.first_clash.Goals as goal

pub loop-first-preserved : goal.loop-first-preserved
loop-first-preserved c =
    let p = program_view c.args.program.now in
    let g = goal_view c.args.goal.now in
    let n = c.in_ok-cells.cells in
    let e = rw c.in-None.is at c.in_ok-found.ensures in
    found-so _ _ _ c.loop-first.invariant (part-fails p g (clashes_with n) c.loop-first.first n c.loop-first.notes c.first_clash_with.new.notes c.loop-first-test.true e)

pub returns-in-Some : goal.returns-in-Some
returns-in-Some c =
    let p = program_view c.args.program.now in
    let g = goal_view c.args.goal.now in
    let n = c.in_ok-cells.cells in
    let e = rw c.in-Some.is at c.in_ok-found.ensures in
    found-first _ _ _ c.loop-first.invariant (part-succeeds p g (clashes_with n) c.loop-first.first n (choice_view c.in-Some.found) c.loop-first.notes c.first_clash_with.new.notes c.loop-first-test.true e)

pub returns : goal.returns
returns c =
    let p = program_view c.args.program.now in
    let g = goal_view c.args.goal.now in
    let n = c.in_ok-cells.cells in
    found-first _ _ _ c.loop-first.invariant (no-part-left p g (clashes_with n) c.loop-first.first n c.loop-first.notes (omega arith))
