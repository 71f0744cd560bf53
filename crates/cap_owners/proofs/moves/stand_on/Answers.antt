use Rattle.std.proofs.Common.{◌∙◌, ap}
use Rattle.cap_owners_spec.specs.Traced.{◌>>=◌}
use Rattle.cap_owners.specs.Tracks.{frames_view}
use Rattle.cap_owners.proofs.Stacking.{moved-alone, stacked}
use Rattle.cap_owners.proofs.moves.stand_on.Goals as goal

pub returns-clause-stands : goal.returns-clause-stands
returns-clause-stands c = λ ts are.
    ap (λ t. t >>= stacked c.args.regions (frames_view c.args.below.items)) (c.in_ok-frame.ensures.stands ts are)
    ∙ moved-alone c.args.regions c.args.below.items c.push.new.self.items c.in_ok-frame.frame c.in_ok-push.ensures.items
