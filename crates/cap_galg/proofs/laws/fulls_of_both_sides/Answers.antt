use Rattle.cap_galg.proofs.Portions.{fulls}
use Rattle.cap_galg.proofs.laws.fulls_of_both_sides.Goals as goal

pub returns : goal.returns
returns c = fulls
