use Rattle.cap_gsolve.proofs.Means.{compat-means}
use Rattle.cap_gsolve.proofs.laws.wanted_atoms_are_compatible.Goals as goal

pub returns : goal.returns
returns c = compat-means
