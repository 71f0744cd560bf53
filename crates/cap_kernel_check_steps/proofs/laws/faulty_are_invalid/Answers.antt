use Rattle.cap_kernel_check_steps.proofs.Roots.{faulty-invalid}
use Rattle.cap_kernel_check_steps.proofs.laws.faulty_are_invalid.Goals as goal

pub returns : goal.returns
returns c = faulty-invalid
