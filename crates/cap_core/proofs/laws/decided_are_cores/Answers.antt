use Rattle.cap_core.proofs.Decided.{decided-are-cores}
use Rattle.cap_core.proofs.laws.decided_are_cores.Goals as goal

pub returns : goal.returns
returns c = decided-are-cores
