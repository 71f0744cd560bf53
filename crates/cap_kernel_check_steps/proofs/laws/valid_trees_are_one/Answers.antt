use Rattle.cap_kernel_check_steps.proofs.Unique.{valid-trees-one}
use Rattle.cap_kernel_check_steps.proofs.laws.valid_trees_are_one.Goals as goal

pub returns : goal.returns
returns c = valid-trees-one
