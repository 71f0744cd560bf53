use Rattle.std.proofs.Common.{[], ap}
use Rattle.cap_goal_spec.specs.Choices.{by_enter}
use Rattle.cap_offer.proofs.Listed.{one-more}
use Rattle.cap_offer.proofs.listing.openings.Goals as goal

pub loop-fact-preserved : goal.loop-fact-preserved
loop-fact-preserved c =
    one-more (λ i. by_enter i []) [] _ _ _ _ c.loop-fact.invariant c.in_ok-push.ensures.items (ap (by_enter c.loop-fact.fact) c.new.ensures.items)
