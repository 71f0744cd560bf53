use Rattle.std.specs.Vec.{vec_len}
use Rattle.cap_machine.proofs.position.+settle.Given as goal

abbrev pub decreases-settle : goal.decreases-settle
decreases-settle l = vec_len l.levels.now
