use Rattle.cap_gen_schedules.proofs.Draws.{found-fault}
use Rattle.cap_gen_schedules.proofs.laws.found_schedules_fault.Goals as goal

pub returns : goal.returns
returns c = found-fault
