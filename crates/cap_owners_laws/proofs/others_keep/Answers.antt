use Rattle.cap_owners_laws.proofs.Steps.{others-keep}
use Rattle.cap_owners_laws.proofs.others_keep.Goals as goal

pub returns : goal.returns
returns c = others-keep
