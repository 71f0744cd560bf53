use Rattle.cap_top_commands.proofs.Strays.{strays-fault}
use Rattle.cap_top_commands.proofs.laws.strays_fault.Goals as goal

pub returns : goal.returns
returns c = strays-fault c.found_schedules_fault.ensures c.found_schedules_are_read_back.ensures
