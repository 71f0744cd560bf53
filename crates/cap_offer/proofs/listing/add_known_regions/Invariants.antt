use Rattle.std.proofs.Common.{◌≡◌, [], ◌++◌, map}
use Rattle.std.specs.List.{range_with_len}
use Rattle.cap_goal_spec.specs.Choices.{by_region}
use Rattle.cap_offer.specs.Views.{choices_view}
use Rattle.cap_offer.proofs.listing.add_known_regions.Given as goal

abbrev pub invariant-loop-fact : goal.invariant-loop-fact
invariant-loop-fact l =
    choices_view l.all.items ≡ choices_view l.fn.all.items ++ map (λ j. by_region j []) (range_with_len 0 l.fact)
