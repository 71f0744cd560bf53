use Rattle.std.proofs.Common.{◌≡◌, ◌-◌, [], map}
use Rattle.std.specs.List.{range_with_len}
use Rattle.cap_prog.specs.Views.{program_view}
use Rattle.cap_goal.specs.Views.{goal_view}
use Rattle.cap_goal_spec.specs.Choices.{by_clash}
use Rattle.cap_offer_spec.specs.Listing.{clashes_with}
use Rattle.cap_offer_spec.specs.Scanning.{first_tried}
use Rattle.cap_offer.proofs.clashing.first_clash_with.Given as goal

abbrev pub invariant-loop-second : goal.invariant-loop-second
invariant-loop-second l =
    let p = program_view l.program in
    let g = goal_view l.goal in
    let whole = first_tried p g (clashes_with l.cells l.first) l.fn.notes in
    let rest = first_tried p g (map (λ j. by_clash l.first j []) (range_with_len l.second (l.cells - l.second))) l.notes in
    (whole.value ≡ rest.value) × (whole.notes ≡ rest.notes)
