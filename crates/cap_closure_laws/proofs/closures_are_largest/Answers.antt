use Rattle.cap_closure_laws.proofs.Largest.{closures-largest}
use Rattle.cap_closure_laws.proofs.closures_are_largest.Goals as goal

pub returns : goal.returns
returns c = closures-largest
