use Rattle.cap_rules_fits.proofs.Roots.{unit-fits}
use Rattle.cap_rules_fits.proofs.roots_fit.Goals as goal

pub returns : goal.returns
returns c = λ p f u. unit-fits p f u
