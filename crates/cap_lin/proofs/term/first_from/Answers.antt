use Rattle.std.proofs.Common.{arith, ◌+◌, ◌-◌, ◌/◌}
use Rattle.cap_lin.proofs.Places.{raised, lowered}
use Rattle.cap_lin.proofs.term.first_from.Goals as goal

pub returns-then-low-parts : goal.returns-then-low-parts
returns-then-low-parts c = record {
  bound = omega arith;
  below = λ k h. absurd (omega arith);
  above = lowered c.args.low c.args.parts.now 0 c.requires c.if-low-parts.true;
}

pub loop-start-preserved-then-parts-middle : goal.loop-start-preserved-then-parts-middle
loop-start-preserved-then-parts-middle c = record {
  order = omega arith;
  bound = omega arith;
  below = raised c.args.low c.args.parts.now (c.loop-start.start + (c.loop-start.end - c.loop-start.start) / 2) c.requires (omega arith) c.if-parts-middle.true;
  above = c.loop-start.invariant.above;
}

pub loop-start-preserved : goal.loop-start-preserved
loop-start-preserved c = record {
  order = omega arith;
  bound = omega arith;
  below = c.loop-start.invariant.below;
  above = lowered c.args.low c.args.parts.now (c.loop-start.start + (c.loop-start.end - c.loop-start.start) / 2) c.requires c.if-parts-middle.false;
}

pub returns : goal.returns
returns c = record {
  bound = omega arith;
  below = c.loop-start.invariant.below;
  above = λ k h. c.loop-start.invariant.above k (omega arith);
}
