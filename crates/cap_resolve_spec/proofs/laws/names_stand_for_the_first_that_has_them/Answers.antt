use Rattle.cap_resolve_spec.proofs.References.{variable-named, function-named, region-named}
use Rattle.cap_resolve_spec.proofs.laws.names_stand_for_the_first_that_has_them.Goals as goal

pub returns-clause-variables : goal.returns-clause-variables
returns-clause-variables c = variable-named

pub returns-clause-functions : goal.returns-clause-functions
returns-clause-functions c = function-named

pub returns-clause-regions : goal.returns-clause-regions
returns-clause-regions c = region-named
