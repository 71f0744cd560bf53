use Rattle.cap_gsolve.proofs.Means.{parts-compose}
use Rattle.cap_gsolve.proofs.laws.composed_parts_hold_both.Goals as goal

pub returns : goal.returns
returns c = parts-compose
