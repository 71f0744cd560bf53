use Rattle.cap_top_commands.proofs.Outlines.{checked_outlined}
use Rattle.cap_top_commands.proofs.laws.checked_are_outlined.Goals as goal

pub returns : goal.returns
returns c = checked_outlined c.judged_are_valid.ensures
