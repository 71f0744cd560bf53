use Rattle.cap_galg.proofs.Portions.{portions}
use Rattle.cap_galg.proofs.laws.portions_compose.Goals as goal

pub returns : goal.returns
returns c = portions
