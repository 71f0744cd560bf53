use Rattle.cap_owners_laws.proofs.Examples.{guards-shown}
use Rattle.cap_owners_laws.proofs.guards_are_shown.Goals as goal

pub returns : goal.returns
returns c = guards-shown
