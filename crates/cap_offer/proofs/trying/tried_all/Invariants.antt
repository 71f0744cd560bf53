use Rattle.std.proofs.Common.{◌≡◌, ◌++◌}
use Rattle.std.specs.Vec.Iter.{into_iter_items}
use Rattle.cap_prog.specs.Views.{program_view}
use Rattle.cap_goal.specs.Views.{goal_view}
use Rattle.cap_offer_spec.specs.Scanning.{tried_all}
use Rattle.cap_offer.specs.Views.{choices_view}
use Rattle.cap_offer.proofs.trying.tried_all.Given as goal

abbrev pub invariant-loop-choice : goal.invariant-loop-choice
invariant-loop-choice l =
    let p = program_view l.program in
    let g = goal_view l.goal in
    let whole = tried_all p g (choices_view l.fn.choices.items) l.fn.notes in
    let rest = tried_all p g (choices_view (into_iter_items l.choice-iterator)) l.notes in
    (whole.value ≡ choices_view l.all.items ++ rest.value) × (whole.notes ≡ rest.notes)
