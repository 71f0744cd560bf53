use Rattle.cap_owners_laws.proofs.Runs.{runs-shown}
use Rattle.cap_owners_laws.proofs.runs_are_the_machines.Goals as goal

pub returns : goal.returns
returns c = λ d n c es k h. runs-shown d es n c k h
