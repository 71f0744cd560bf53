use Rattle.std.proofs.Common.{◌≡◌, ◌++◌}
use Rattle.std.specs.List.{range_with_len, flat_map}
use Rattle.cap_prog.specs.Views.{region_view}
use Rattle.cap_offer_spec.specs.Listing.{moves_of}
use Rattle.cap_offer.specs.Views.{choices_view}
use Rattle.cap_offer.proofs.listing.add_closings.Given as goal

abbrev pub invariant-loop-case : goal.invariant-loop-case
invariant-loop-case l =
    choices_view l.all.items
    ≡ choices_view l.fn.all.items ++ flat_map (moves_of l.opened (region_view l.region)) (range_with_len 0 l.case)
