use Rattle.cap_account.proofs.Soundness.{derivations-are-sound}
use Rattle.cap_account.proofs.Storing.{safe-example}
use Rattle.cap_account.proofs.safe_example_is_safe.Goals as goal

pub returns : goal.returns
returns c = safe-example derivations-are-sound
