use Rattle.cap_owners_laws.proofs.Examples.{starts-refused}
use Rattle.cap_owners_laws.proofs.starts_are_refused.Goals as goal

pub returns : goal.returns
returns c = starts-refused
