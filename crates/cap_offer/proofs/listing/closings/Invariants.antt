use Rattle.std.proofs.Common.{◌≡◌, ◌++◌, reverse}
use Rattle.std.specs.Prelude.{slice_get}
use Rattle.std.specs.List.{range_with_len, flat_map}
use Rattle.cap_prog.specs.Views.{program_view}
use Rattle.cap_offer_spec.specs.Listing.{closings, closings_of, type_of_opened}
use Rattle.cap_offer.specs.Views.{choices_view}
use Rattle.cap_offer.proofs.listing.closings.Given as goal

abbrev pub invariant-loop-number : goal.invariant-loop-number
invariant-loop-number l =
    let p = program_view l.program in
    choices_view l.all.items
    ++ flat_map (λ o. closings_of o (type_of_opened p (slice_get l.state.opened o))) (reverse (range_with_len 0 l.number))
    ≡ closings p l.state
