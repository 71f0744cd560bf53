use Rattle.cap_account.proofs.Soundness.{derivations-are-sound}
use Rattle.cap_account.proofs.derivations_are_sound.Goals as goal

pub returns : goal.returns
returns c = derivations-are-sound
