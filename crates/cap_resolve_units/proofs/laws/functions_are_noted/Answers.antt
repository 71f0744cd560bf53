use Rattle.cap_resolve_units.proofs.Same.{function_same}
use Rattle.cap_resolve_units.proofs.laws.functions_are_noted.Goals as goal

pub returns : goal.returns
returns c = function_same
