use Rattle.std.proofs.Common.{arith}
use Rattle.cap_open_acts.proofs.Marks.{rivals-more, rivals-done}
use Rattle.cap_open_acts.proofs.marking.push_rivals.Goals as goal

pub loop-number-preserved : goal.loop-number-preserved
loop-number-preserved c = rivals-more c.args.opened.now c.index-facts-number.result c.loop-number.number c.args.facts.now _ _ _ (omega arith) c.index-facts-number.is c.in_ok-push_rival.ensures c.loop-number.invariant

pub returns : goal.returns
returns c = rivals-done c.args.opened.now c.loop-number.number c.args.facts.now _ _ (omega arith) c.loop-number.invariant
