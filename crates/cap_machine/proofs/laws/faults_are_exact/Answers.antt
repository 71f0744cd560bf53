use Rattle.cap_machine.proofs.Faults.{faults_exact}
use Rattle.cap_machine.proofs.laws.faults_are_exact.Goals as goal

pub returns : goal.returns
returns c = faults_exact
