use Rattle.cap_top_laws.proofs.Lines.{lines-answered}
use Rattle.cap_top_laws.proofs.lines_are_answered.Goals as goal

pub returns : goal.returns
returns c = lines-answered c.answers_are_one.ensures
