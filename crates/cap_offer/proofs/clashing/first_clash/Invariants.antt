use Rattle.std.proofs.Common.{◌≡◌, ◌-◌}
use Rattle.std.specs.List.{range_with_len, flat_map}
use Rattle.cap_prog.specs.Views.{program_view}
use Rattle.cap_goal.specs.Views.{goal_view}
use Rattle.cap_offer_spec.specs.Listing.{clashes_with, clashes}
use Rattle.cap_offer_spec.specs.Scanning.{first_tried}
use Rattle.cap_offer.proofs.clashing.first_clash.Given as goal

abbrev pub invariant-loop-first : goal.invariant-loop-first
invariant-loop-first l =
    let p = program_view l.program in
    let g = goal_view l.goal in
    let whole = first_tried p g (clashes g.state) l.fn.notes in
    let rest = first_tried p g (flat_map (clashes_with l.cells) (range_with_len l.first (l.cells - l.first))) l.notes in
    (whole.value ≡ rest.value) × (whole.notes ≡ rest.notes)
