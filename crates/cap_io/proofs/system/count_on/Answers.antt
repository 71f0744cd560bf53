-- After one more read, the bytes seen are those seen before and those that were read.
use Rattle.std.proofs.Common.{arith}
use Rattle.std.proofs.lemmas.Grind.{common_steps}
use Rattle.cap_io.proofs.Known.{seen_more}
use Rattle.cap_io.proofs.system.count_on.Goals as goal

pub loop-seen-preserved : goal.loop-seen-preserved
loop-seen-preserved g c = record {
  few = grind (arith, common_steps, c.in-Ok.ensures.bound, c.read_some.auto.buffer, c.min-room.ensures);
  read = seen_more _ _ _ _ _ _ _ c.loop-seen.invariant.read c.in-Ok.ensures.bytes.0 (grind (arith, common_steps, c.in-Ok.ensures.bound, c.read_some.auto.buffer));
}
