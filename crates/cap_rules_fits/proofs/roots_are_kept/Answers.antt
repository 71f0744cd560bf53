use Rattle.cap_rules_fits.proofs.KeptRoots.{roots-kept}
use Rattle.cap_rules_fits.proofs.roots_are_kept.Goals as goal

pub returns : goal.returns
returns c = roots-kept
