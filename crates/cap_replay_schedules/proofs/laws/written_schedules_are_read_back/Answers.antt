use Rattle.cap_replay_schedules.proofs.Written.{schedule-back}
use Rattle.cap_replay_schedules.proofs.laws.written_schedules_are_read_back.Goals as goal

pub returns : goal.returns
returns c = schedule-back
