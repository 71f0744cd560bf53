use Rattle.cap_kernel_check_steps.proofs.Agreeing.{judgements-one}
use Rattle.cap_kernel_check_steps.proofs.laws.judgements_are_one.Goals as goal

pub returns : goal.returns
returns c = judgements-one
