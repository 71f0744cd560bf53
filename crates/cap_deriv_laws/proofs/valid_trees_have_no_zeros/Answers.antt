use Rattle.cap_deriv_laws.proofs.Multipliers.{no-zeros}
use Rattle.cap_deriv_laws.proofs.valid_trees_have_no_zeros.Goals as goal

pub returns : goal.returns
returns c = no-zeros c.subgoals_succeed.ensures
