use Rattle.std.proofs.Common.{◌<◌, length, arith}
use Rattle.std.proofs.lemmas.Grind.{common_steps}
use Rattle.cap_deriv.proofs.Cut.{cut_here, cut_end}
use Rattle.cap_deriv.proofs.first.first_line.Goals as goal

pub returns-then-byte-eq10 : goal.returns-then-byte-eq10
returns-then-byte-eq10 c = cut_here c.args.bytes.now c.loop-i.i c.loop-i-test.true c.if-byte-eq10.true c.loop-i.invariant.front c.loop-i.invariant.back

pub returns : goal.returns
returns c =
    let some : 0 < length c.args.bytes.now = grind (arith, common_steps) in
    cut_end c.args.bytes.now c.loop-i.i some c.loop-i-test.false c.loop-i.invariant.front c.loop-i.invariant.back
