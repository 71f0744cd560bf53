use Rattle.std.proofs.Common.{arith}
use Rattle.std.proofs.lemmas.Result.{err_from_is_err_and}
use Rattle.cap_rules.specs.Making.{rows_by}
use Rattle.cap_rules_steps.proofs.Walking.{done}
use Rattle.cap_rules_steps.proofs.Listing.{own_row, rows_gather, gather-first, gather-next, gather-fail, gather-end}
use Rattle.cap_rules_steps.proofs.bound.rows_by.Goals as goal

pub loop-comparison-init : goal.loop-comparison-init
loop-comparison-init c = rw c.new-rows.ensures.items (gather-first (rows_by c.args.env.now) c.args.comparisons.now)

pub returns-in_err-row_by : goal.returns-in_err-row_by
returns-in_err-row_by c =
    let p = err_from_is_err_and c.from_residual.result c.from_residual.ensures.1 in
    rw (p.1, p.2) (gather-fail (rows_by c.args.env.now) (own_row c.args.env.now) (rows_gather c.args.env.now) c.args.comparisons.now c.loop-comparison.comparison-index c.comparison-item.result c.loop-comparison.rows.items _ _ (omega arith) c.comparison-item.is c.in_err-row_by.ensures c.loop-comparison.invariant)

pub loop-comparison-preserved : goal.loop-comparison-preserved
loop-comparison-preserved c = rw c.in_ok-push.ensures.items (gather-next (rows_by c.args.env.now) (own_row c.args.env.now) (rows_gather c.args.env.now) c.args.comparisons.now c.loop-comparison.comparison-index c.comparison-item.result _ c.loop-comparison.rows.items _ (omega arith) c.comparison-item.is c.in_ok-row_by.ensures c.loop-comparison.invariant)

pub returns : goal.returns
returns c = gather-end (rows_by c.args.env.now) c.args.comparisons.now c.loop-comparison.comparison-index c.loop-comparison.rows.items _ (omega arith) (done _) c.loop-comparison.invariant
