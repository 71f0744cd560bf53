use Rattle.std.proofs.Common.{◌≡◌}
use Rattle.std.specs.Vec.Iter.{into_iter_items}
use Rattle.cap_prog.specs.Views.{program_view}
use Rattle.cap_goal.specs.Views.{goal_view}
use Rattle.cap_offer_spec.specs.Scanning.{first_tried}
use Rattle.cap_offer.specs.Views.{choices_view}
use Rattle.cap_offer.proofs.trying.first_tried.Given as goal

abbrev pub invariant-loop-choice : goal.invariant-loop-choice
invariant-loop-choice l =
    let p = program_view l.program in
    let g = goal_view l.goal in
    let whole = first_tried p g (choices_view l.fn.choices.items) l.fn.notes in
    let rest = first_tried p g (choices_view (into_iter_items l.choice-iterator)) l.notes in
    (whole.value ≡ rest.value) × (whole.notes ≡ rest.notes)
