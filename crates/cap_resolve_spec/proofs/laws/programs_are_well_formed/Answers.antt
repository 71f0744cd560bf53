use Rattle.cap_resolve_spec.proofs.WellFormed.{stands-well_formed}
use Rattle.cap_resolve_spec.proofs.laws.programs_are_well_formed.Goals as goal

pub returns : goal.returns
returns c = stands-well_formed
