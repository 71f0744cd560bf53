use Rattle.std.proofs.Common.{◌≡◌, suc, List, ◌∷◌, drop, subst, arith}
use Rattle.cap_lin.specs.Linear.{Linear}
use Rattle.cap_prog.specs.Views.{program_view}
use Rattle.cap_goal.specs.Views.{goal_view, choice_view}
use Rattle.cap_offer.specs.Views.{sought_view}
use Rattle.cap_offer.proofs.Noted.{scan-goes, scan-finds, scan-ends, split-at}
use Rattle.cap_offer.proofs.Trials.{found-so, found-first}
use Rattle.cap_offer.proofs.scanning.first_sought.Goals as goal

pub loop-place-preserved : goal.loop-place-preserved
loop-place-preserved c =
    let p = program_view c.args.program.now in
    let g = goal_view c.args.goal.now in
    let j = c.loop-place.place in
    let d = subst (λ (cs : List (Linear × Linear)). drop j cs ≡ c.cell-item.result ∷ drop (suc j) cs) c.cells-cell-items.ensures (split-at c.cells-cell-items.result.now j c.cell-item.result (omega arith) c.cell-item.is) in
    let h = rw (c.in_ok-number.ensures, c.in-GoesOn.is) at c.in_ok-choice.ensures in
    found-so _ _ _ c.loop-place.invariant (scan-goes p g (sought_view c.args.sought) g.state.cells j c.cell-item.result c.loop-place.notes c.scan_cell.new.notes d h)

pub returns-in-Finds : goal.returns-in-Finds
returns-in-Finds c =
    let p = program_view c.args.program.now in
    let g = goal_view c.args.goal.now in
    let j = c.loop-place.place in
    let d = subst (λ (cs : List (Linear × Linear)). drop j cs ≡ c.cell-item.result ∷ drop (suc j) cs) c.cells-cell-items.ensures (split-at c.cells-cell-items.result.now j c.cell-item.result (omega arith) c.cell-item.is) in
    let h = rw (c.in_ok-number.ensures, c.in-Finds.is) at c.in_ok-choice.ensures in
    found-first _ _ _ c.loop-place.invariant (scan-finds p g (sought_view c.args.sought) g.state.cells j c.cell-item.result (choice_view c.in-Finds.choice) c.loop-place.notes c.scan_cell.new.notes d h)

pub returns-in-Ends : goal.returns-in-Ends
returns-in-Ends c =
    let p = program_view c.args.program.now in
    let g = goal_view c.args.goal.now in
    let j = c.loop-place.place in
    let d = subst (λ (cs : List (Linear × Linear)). drop j cs ≡ c.cell-item.result ∷ drop (suc j) cs) c.cells-cell-items.ensures (split-at c.cells-cell-items.result.now j c.cell-item.result (omega arith) c.cell-item.is) in
    let h = rw (c.in_ok-number.ensures, c.in-Ends.is) at c.in_ok-choice.ensures in
    found-first _ _ _ c.loop-place.invariant (scan-ends p g (sought_view c.args.sought) g.state.cells j c.cell-item.result c.loop-place.notes c.scan_cell.new.notes d h)
