use Rattle.cap_outline_laws.proofs.Outlined.{derivations-outline}
use Rattle.cap_outline_laws.proofs.derivations_outline.Goals as goal

pub returns : goal.returns
returns c = derivations-outline
