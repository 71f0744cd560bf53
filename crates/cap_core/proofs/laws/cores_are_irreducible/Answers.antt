use Rattle.cap_core.proofs.Needed.{cores-are-irreducible}
use Rattle.cap_core.proofs.laws.cores_are_irreducible.Goals as goal

pub returns : goal.returns
returns c = cores-are-irreducible
