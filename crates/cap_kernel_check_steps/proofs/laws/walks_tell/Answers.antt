use Rattle.cap_kernel_check_steps.proofs.Roots.{walks-told}
use Rattle.cap_kernel_check_steps.proofs.laws.walks_tell.Goals as goal

pub returns : goal.returns
returns c = walks-told
