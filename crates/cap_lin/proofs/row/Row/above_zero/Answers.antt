use Rattle.std.proofs.lemmas.Result.{err_from_is_err_and}
use Rattle.cap_lin.proofs.Rows.{above-first, above-after}
use Rattle.cap_lin.proofs.row.Row.above_zero.Goals as goal

pub returns-in_err-negative : goal.returns-in_err-negative
returns-in_err-negative c =
    let p = err_from_is_err_and c.from_residual.result c.from_residual.ensures.1 in
    rw (p.1, p.2) (above-first _ _ _ c.in_err-negative.ensures)

pub returns : goal.returns
returns c =
    let m = c.in_ok-negative.ensures in
    above-after c.below_zero.result _ _ m.0 (rw m.1 at c.below_zero.ensures)
