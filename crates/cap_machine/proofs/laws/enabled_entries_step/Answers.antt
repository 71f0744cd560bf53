use Rattle.cap_machine.proofs.Enabled.{enabled_steps}
use Rattle.cap_machine.proofs.laws.enabled_entries_step.Goals as goal

pub returns : goal.returns
returns c = enabled_steps
