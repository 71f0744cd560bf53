use Rattle.std.proofs.Common.{refl}
use Rattle.cap_goal_spec.specs.Choices.{by_create}
use Rattle.cap_offer.proofs.Listed.{one-more}
use Rattle.cap_offer.proofs.listing.add_new_regions.Goals as goal

pub loop-case-preserved : goal.loop-case-preserved
loop-case-preserved c = one-more by_create _ _ _ _ _ c.loop-case.invariant c.in_ok-push.ensures.items refl
