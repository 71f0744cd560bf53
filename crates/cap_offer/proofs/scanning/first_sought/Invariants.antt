use Rattle.std.proofs.Common.{◌≡◌, drop}
use Rattle.cap_prog.specs.Views.{program_view}
use Rattle.cap_goal.specs.Views.{goal_view}
use Rattle.cap_offer.specs.Seeking.{first_sought}
use Rattle.cap_offer.specs.Views.{sought_view}
use Rattle.cap_offer.proofs.scanning.first_sought.Given as goal

abbrev pub invariant-loop-place : goal.invariant-loop-place
invariant-loop-place l =
    let p = program_view l.program in
    let g = goal_view l.goal in
    let whole = first_sought p g (sought_view l.fn.sought) 0 l.goal.state.cells l.fn.notes in
    let rest = first_sought p g (sought_view l.fn.sought) l.place (drop l.place l.goal.state.cells) l.notes in
    (whole.value ≡ rest.value) × (whole.notes ≡ rest.notes)
