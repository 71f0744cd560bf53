use Rattle.cap_kernel_check_steps.proofs.Judging.{judged-are-valid}
use Rattle.cap_kernel_check_steps.proofs.laws.judged_are_valid.Goals as goal

pub returns : goal.returns
returns c = judged-are-valid
