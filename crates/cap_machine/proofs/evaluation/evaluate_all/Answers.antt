use Rattle.std.proofs.Common.{rules, ◌<◌, ◌≤◌, length, arith}
use Rattle.std.proofs.lemmas.Result.{err_from_is_err_and}
use mir.Val.{SFits}
use mir.Syntax.{w128}
use Rattle.std.proofs.lemmas.Int.{to_z-of_z}
use Rattle.cap_machine.proofs.ValueLemmas.{so_far_next, so_far_wide, so_far_all}
use Rattle.cap_machine.proofs.evaluation.evaluate_all.Goals as goal

pub returns-in_err-evaluate : goal.returns-in_err-evaluate
returns-in_err-evaluate c =
    let h : c.loop-term.term-index < length c.args.terms.now = omega arith in
    let p = err_from_is_err_and c.from_residual.result c.from_residual.ensures.1 in
    rw (p.1, p.2) (so_far_wide c.args.store.now c.args.terms.now c.loop-term.term-index c.term-item.result c.loop-term.values.items _ h c.term-item.is c.loop-term.invariant c.in_err-evaluate.ensures)

pub loop-term-preserved : goal.loop-term-preserved
loop-term-preserved c =
    let h : c.loop-term.term-index < length c.args.terms.now = omega arith in
    let f : SFits w128 c.in_ok-evaluate.field-0 = search rules in
    let i = rw (to_z-of_z w128 _ f) at c.in_ok-push.ensures.items in
    so_far_next c.args.store.now c.args.terms.now c.loop-term.term-index c.term-item.result c.loop-term.values.items c.push.new.self.items _ h c.term-item.is c.loop-term.invariant c.in_ok-evaluate.ensures.0 c.in_ok-evaluate.ensures.1 i

pub returns : goal.returns
returns c =
    let h : length c.args.terms.now ≤ c.loop-term.term-index = omega arith in
    so_far_all c.args.store.now c.args.terms.now c.loop-term.term-index c.loop-term.values.items h c.loop-term.invariant
