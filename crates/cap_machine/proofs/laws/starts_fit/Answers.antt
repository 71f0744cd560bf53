use Rattle.cap_machine.proofs.Keeping.{starts_keep}
use Rattle.cap_machine.proofs.laws.starts_fit.Goals as goal

pub returns : goal.returns
returns c = starts_keep
