use Rattle.cap_machine_examples.proofs.LastReturns.{last-returns}
use Rattle.cap_machine_examples.proofs.last_returns_are_kept.Goals as goal

pub returns : goal.returns
returns c = last-returns
