use Rattle.cap_machine.proofs.Keeping.{steps_keep}
use Rattle.cap_machine.proofs.laws.steps_keep_fit.Goals as goal

pub returns : goal.returns
returns c = steps_keep
