use Rattle.std.proofs.Common.{rules, ◌≡◌, pos, arith}
use Rattle.std.proofs.lemmas.Int.{ints}
use mir.Val.{SFits}
use mir.Syntax.{w128}
use Rattle.cap_farkas.proofs.Columns.{more, all}
use Rattle.cap_farkas.proofs.leaf.cancels.Goals as goal

pub loop-variable-preserved : goal.loop-variable-preserved
loop-variable-preserved c =
    let u : SFits w128 c.in-Some-sum_of.sum = search rules in
    let t = c.if-sum-ne0.false in
    let z : c.in-Some-sum_of.sum ≡ pos 0 = omega (arith, ints) in
    more _ _ c.loop-variable.low c.in-Some.variable c.in-Some-sum_of.sum c.loop-variable.invariant c.in-Some.ensures c.in-Some-sum_of.ensures.0 c.in-Some-sum_of.ensures.1 z

pub returns : goal.returns
returns c = all _ _ c.loop-variable.low c.loop-variable.invariant c.in_default.ensures
