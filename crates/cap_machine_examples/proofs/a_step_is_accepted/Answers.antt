use Rattle.cap_machine_examples.proofs.Accepted.{accepted}
use Rattle.cap_machine_examples.proofs.a_step_is_accepted.Goals as goal

pub returns : goal.returns
returns c = accepted
