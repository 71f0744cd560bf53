use Rattle.cap_offer_spec.proofs.Applying.{offered-apply}
use Rattle.cap_offer_spec.proofs.offered_choices_apply.Goals as goal

pub returns : goal.returns
returns c = offered-apply
