use Rattle.cap_search_spec.proofs.Lawful.{proved-are-valid}
use Rattle.cap_search_spec.proofs.proved_units_are_valid.Goals as goal

pub returns : goal.returns
returns c = proved-are-valid
