use Rattle.cap_top_laws.proofs.Schedules.{schedule-answered}
use Rattle.cap_top_laws.proofs.schedules_are_answered.Goals as goal

pub returns : goal.returns
returns c = schedule-answered
