use Rattle.std.proofs.Common.{length}
use Rattle.cap_machine.proofs.position.+block_at.Given as goal

abbrev pub decreases-block_at : goal.decreases-block_at
decreases-block_at l = length l.levels.now
