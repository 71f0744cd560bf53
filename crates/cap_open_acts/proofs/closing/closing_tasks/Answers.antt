use Rattle.std.proofs.Common.{arith}
use Rattle.cap_open_acts.proofs.Tasks.{close-first, close-more, close-done}
use Rattle.cap_open_acts.proofs.closing.closing_tasks.Goals as goal

pub loop-region-init : goal.loop-region-init
loop-region-init c = close-first c.args.at c.args.opened.now c.args.behind.now _ _ c.in_ok-push.ensures.items c.in_ok-tasks.ensures

pub loop-region-preserved : goal.loop-region-preserved
loop-region-preserved c = close-more c.args.at c.args.opened.now c.loop-region.region-index c.region-item.result _ _ _ (omega arith) c.in_ok-push-2.ensures.items c.loop-region.invariant

pub returns : goal.returns
returns c = close-done c.args.at c.args.opened.now c.loop-region.region-index c.loop-region.tasks.items _ (omega arith) c.loop-region.invariant
