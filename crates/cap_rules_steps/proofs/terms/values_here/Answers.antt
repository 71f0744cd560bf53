use Rattle.std.proofs.Common.{arith}
use Rattle.std.proofs.lemmas.Result.{err_from_is_err_and}
use Rattle.cap_rules.specs.Making.{values_here}
use Rattle.cap_rules_steps.proofs.Listing.{values-first, values-next, values-fail, values-end}
use Rattle.cap_rules_steps.proofs.terms.values_here.Goals as goal

pub returns-in_err-value_here : goal.returns-in_err-value_here
returns-in_err-value_here c =
    let p = err_from_is_err_and c.from_residual.result c.from_residual.ensures.1 in
    rw (p.1, p.2) (values-fail c.args.state.now c.args.terms.now c.loop-term.term-index c.term-item.result c.loop-term.values.items _ _ (omega arith) c.term-item.is c.in_err-value_here.ensures c.loop-term.invariant)

pub loop-term-preserved : goal.loop-term-preserved
loop-term-preserved c = rw c.in_ok-push.ensures.items (values-next c.args.state.now c.args.terms.now c.loop-term.term-index c.term-item.result _ c.loop-term.values.items _ (omega arith) c.term-item.is c.in_ok-value_here.ensures.0 c.in_ok-value_here.ensures.1 c.loop-term.invariant)

pub returns : goal.returns
returns c = values-end c.args.state.now c.args.terms.now c.loop-term.term-index c.loop-term.values.items _ (omega arith) c.loop-term.invariant
