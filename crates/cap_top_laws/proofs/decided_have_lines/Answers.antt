use Rattle.cap_top_laws.proofs.Multipliers.{decided-have-lines}
use Rattle.cap_top_laws.proofs.decided_have_lines.Goals as goal

pub returns : goal.returns
returns c = decided-have-lines
