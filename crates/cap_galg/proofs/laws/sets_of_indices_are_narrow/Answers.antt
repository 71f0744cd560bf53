use Rattle.cap_galg.proofs.Sets.{sets-narrow}
use Rattle.cap_galg.proofs.laws.sets_of_indices_are_narrow.Goals as goal

pub returns : goal.returns
returns c = sets-narrow
