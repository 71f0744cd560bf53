use Rattle.std.proofs.Common.{arith}
use Rattle.cap_open_acts.proofs.Marks.{pairs-more, pairs-done}
use Rattle.cap_open_acts.proofs.marking.pairs_of.Goals as goal

pub loop-region-preserved : goal.loop-region-preserved
loop-region-preserved c = pairs-more c.args.facts.now c.region-item.result c.loop-region.region-index c.args.opened.now _ _ _ (omega arith) c.region-item.is c.in_ok-push_rivals.ensures c.loop-region.invariant

pub returns : goal.returns
returns c = pairs-done c.args.facts.now c.loop-region.region-index c.args.opened.now _ _ (omega arith) c.loop-region.invariant
