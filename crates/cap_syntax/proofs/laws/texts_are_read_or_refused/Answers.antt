use Rattle.cap_syntax.proofs.Totality.{read_or_refused}
use Rattle.cap_syntax.proofs.laws.texts_are_read_or_refused.Goals as goal

pub returns : goal.returns
returns c = read_or_refused
