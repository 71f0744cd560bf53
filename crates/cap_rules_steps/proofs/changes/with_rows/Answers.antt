use Rattle.std.proofs.Common.{arith}
use Rattle.std.proofs.lemmas.Result.{err_from_is_err_and}
use Rattle.cap_rules.specs.Making.{with_row, with_rows}
use Rattle.cap_rules_steps.proofs.Walking.{rows_go, goes_on, fails_at, ends, done}
use Rattle.cap_rules_steps.proofs.changes.with_rows.Goals as goal

pub returns-in_err-with_row : goal.returns-in_err-with_row
returns-in_err-with_row c =
    let p = err_from_is_err_and c.from_residual-in_err-with_row.result c.from_residual-in_err-with_row.ensures.1 in
    let m = rw c.in_ok-copy.ensures at c.in_err-with_row.ensures in
    rw (p.1, p.2) (fails_at with_rows with_row rows_go c.loop-row.state c.args.rows.now c.loop-row.row-index c.row-item.result _ _ (omega arith) c.row-item.is m c.loop-row.invariant)

pub loop-row-preserved : goal.loop-row-preserved
loop-row-preserved c =
    let m = rw c.in_ok-copy.ensures at c.in_ok-with_row.ensures in
    goes_on with_rows with_row rows_go c.loop-row.state c.with_row.new.state c.args.rows.now c.loop-row.row-index c.row-item.result _ (omega arith) c.row-item.is m c.loop-row.invariant

pub returns : goal.returns
returns c = ends with_rows c.loop-row.state c.args.rows.now c.loop-row.row-index _ _ (omega arith) (done _) c.loop-row.invariant
