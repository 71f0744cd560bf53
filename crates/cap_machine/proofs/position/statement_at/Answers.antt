use Rattle.cap_machine.proofs.PlaceLemmas.{skip_view}
use Rattle.cap_machine.proofs.position.statement_at.Goals as goal

pub returns-clause-is : goal.returns-clause-is
returns-clause-is c = rw c.get.ensures.is (skip_view c.args.block.now c.args.index)
