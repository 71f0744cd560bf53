use Rattle.cap_deriv_laws.proofs.Multipliers.{no-zero}
use Rattle.cap_deriv_laws.proofs.refutations_have_no_zero.Goals as goal

pub returns : goal.returns
returns c = no-zero
