use Rattle.cap_top_commands.proofs.Strays.{safe-no-stray}
use Rattle.cap_top_commands.proofs.laws.safe_texts_have_no_stray.Goals as goal

pub returns : goal.returns
returns c = safe-no-stray c.safe_programs_have_none.ensures
