use Rattle.std.proofs.Common.{◌≡◌, ◌++◌, map}
use Rattle.std.specs.List.{range_with_len}
use Rattle.cap_goal_spec.specs.Choices.{by_create}
use Rattle.cap_offer.specs.Views.{choices_view}
use Rattle.cap_offer.proofs.listing.add_new_regions.Given as goal

abbrev pub invariant-loop-case : goal.invariant-loop-case
invariant-loop-case l =
    choices_view l.all.items ≡ choices_view l.fn.all.items ++ map by_create (range_with_len 0 l.case)
