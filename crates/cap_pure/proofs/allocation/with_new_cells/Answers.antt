use Rattle.std.proofs.Common.{arith}
use Rattle.std.proofs.lemmas.Result.{err_from_is_err_and}
use Rattle.cap_pure.proofs.Cells.{cells-next, cells-fail, cells-end}
use Rattle.cap_pure.proofs.allocation.with_new_cells.Goals as goal

pub returns-in_err-with_new_cell : goal.returns-in_err-with_new_cell
returns-in_err-with_new_cell c =
    let p = err_from_is_err_and c.from_residual.result c.from_residual.ensures.1 in
    rw (p.1, p.2) (cells-fail c.args.base.now c.args.count c.loop-step.step c.loop-step.state _ _ (omega arith) c.in_err-with_new_cell.ensures c.loop-step.invariant)

pub loop-step-preserved : goal.loop-step-preserved
loop-step-preserved c = cells-next c.args.base.now c.args.count c.loop-step.step c.loop-step.state c.with_new_cell.new.state _ (omega arith) c.in_ok-with_new_cell.ensures c.loop-step.invariant

pub returns : goal.returns
returns c = cells-end c.args.base.now c.args.count c.loop-step.step c.loop-step.state _ (omega arith) c.loop-step.invariant
