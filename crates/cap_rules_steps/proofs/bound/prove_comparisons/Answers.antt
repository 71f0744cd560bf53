use Rattle.std.proofs.Common.{arith}
use Rattle.std.proofs.lemmas.Result.{err_from_is_err_and}
use Rattle.cap_rules_steps.proofs.Listing.{comparisons-next, comparisons-no-row, comparisons-no-proof, comparisons-end}
use Rattle.cap_rules_steps.proofs.bound.prove_comparisons.Goals as goal

pub returns-in_err-row : goal.returns-in_err-row
returns-in_err-row c =
    let p = err_from_is_err_and c.from_residual.result c.from_residual.ensures.1 in
    rw (p.1, p.2) (comparisons-no-row c.args.rows.now c.args.env.now c.args.comparisons.now c.loop-comparison.comparison-index c.comparison-item.result _ _ _ _ (omega arith) c.comparison-item.is c.in_err-row.ensures c.loop-comparison.invariant)

pub returns-in_err-prove : goal.returns-in_err-prove
returns-in_err-prove c =
    let p = err_from_is_err_and c.from_residual-in_err-prove.result c.from_residual-in_err-prove.ensures.1 in
    rw (p.1, p.2) (comparisons-no-proof c.args.rows.now c.args.env.now c.args.comparisons.now c.loop-comparison.comparison-index c.comparison-item.result _ _ _ _ _ _ (omega arith) c.comparison-item.is c.in_ok-row.ensures c.in_err-prove.ensures c.loop-comparison.invariant)

pub loop-comparison-preserved : goal.loop-comparison-preserved
loop-comparison-preserved c = comparisons-next c.args.rows.now c.args.env.now c.args.comparisons.now c.loop-comparison.comparison-index c.comparison-item.result _ _ _ _ _ (omega arith) c.comparison-item.is c.in_ok-row.ensures c.in_ok-prove.ensures c.loop-comparison.invariant

pub returns : goal.returns
returns c = comparisons-end c.args.rows.now c.args.env.now c.args.comparisons.now c.loop-comparison.comparison-index _ _ _ (omega arith) c.loop-comparison.invariant
