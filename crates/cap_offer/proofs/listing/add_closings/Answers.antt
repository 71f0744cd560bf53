use Rattle.cap_prog.specs.Views.{region_view}
use Rattle.cap_offer_spec.specs.Listing.{moves_of}
use Rattle.cap_offer.proofs.Listed.{part-more}
use Rattle.cap_offer.proofs.listing.add_closings.Goals as goal

pub loop-case-preserved : goal.loop-case-preserved
loop-case-preserved c =
    part-more (moves_of c.args.opened (region_view c.in-Some.region.now)) _ _ _ _ c.loop-case.invariant c.in_ok-add_moves.ensures
