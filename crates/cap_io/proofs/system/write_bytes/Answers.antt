-- After one more write the bytes taken so far were appended.
use Rattle.std.proofs.Common.{arith, length-drop}
use Rattle.std.proofs.lemmas.List.{take_all}
use Rattle.cap_io.proofs.Known.{appends_more}
use Rattle.cap_io.proofs.system.write_bytes.Goals as goal

pub loop-taken-preserved : goal.loop-taken-preserved
loop-taken-preserved g c = record {
  within = grind (arith, length-drop, c.in_ok-count.ensures.bound, c.loop-taken.invariant.within);
  written = appends_more _ _ _ _ _ _ _ (grind (arith, take_all, length-drop)) c.loop-taken.invariant.written c.in_ok-count.ensures.bytes;
}
