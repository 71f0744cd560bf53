use Rattle.std.proofs.Common.{[], ap}
use Rattle.cap_goal_spec.specs.Choices.{by_region}
use Rattle.cap_offer.proofs.Listed.{one-more}
use Rattle.cap_offer.proofs.listing.add_known_regions.Goals as goal

pub loop-fact-preserved : goal.loop-fact-preserved
loop-fact-preserved c =
    one-more (λ j. by_region j []) _ _ _ _ _ c.loop-fact.invariant c.in_ok-push.ensures.items (ap (by_region c.loop-fact.fact) c.new.ensures.items)
