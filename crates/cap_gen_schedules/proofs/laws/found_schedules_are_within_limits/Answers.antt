use Rattle.cap_gen_schedules.proofs.Limits.{found-limits}
use Rattle.cap_gen_schedules.proofs.laws.found_schedules_are_within_limits.Goals as goal

pub returns : goal.returns
returns c = found-limits
