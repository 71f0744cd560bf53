use Rattle.cap_gen_schedules.proofs.Draws.{safe-none}
use Rattle.cap_gen_schedules.proofs.laws.safe_programs_have_none.Goals as goal

pub returns : goal.returns
returns c = safe-none
