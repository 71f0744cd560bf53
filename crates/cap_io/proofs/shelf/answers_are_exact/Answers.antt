-- The law is the lemma.
use Rattle.cap_io.proofs.Exact.{exact}
use Rattle.cap_io.proofs.shelf.answers_are_exact.Goals as goal

pub returns : goal.returns
returns c = exact
