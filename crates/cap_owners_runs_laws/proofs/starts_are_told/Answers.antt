use Rattle.cap_owners_runs_laws.proofs.Starts.Told.{starts-told}
use Rattle.cap_owners_runs_laws.proofs.starts_are_told.Goals as goal

pub returns : goal.returns
returns c = λ p trees well textual valid main args heap is arity.
    starts-told p trees well textual valid main args heap is arity
