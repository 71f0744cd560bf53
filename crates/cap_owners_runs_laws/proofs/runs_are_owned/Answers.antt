use Rattle.cap_owners_runs_laws.proofs.Owned.{all-owned}
use Rattle.cap_owners_runs_laws.proofs.runs_are_owned.Goals as goal

pub returns : goal.returns
returns c = all-owned
