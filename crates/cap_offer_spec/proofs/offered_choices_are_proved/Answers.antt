use Rattle.cap_offer_spec.proofs.Applying.{offered-are-proved}
use Rattle.cap_offer_spec.proofs.offered_choices_are_proved.Goals as goal

pub returns : goal.returns
returns c = offered-are-proved
