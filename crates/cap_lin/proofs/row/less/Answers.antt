use Rattle.std.proofs.lemmas.Result.{err_from_is_err_and}
use Rattle.cap_lin.proofs.Rows.{less-first, less-after}
use Rattle.cap_lin.proofs.row.less.Goals as goal

pub returns-in_err-term : goal.returns-in_err-term
returns-in_err-term c =
    let p = err_from_is_err_and c.from_residual.result c.from_residual.ensures.1 in
    rw (p.1, p.2) (less-first _ _ _ _ c.in_err-term.ensures)

pub returns : goal.returns
returns c =
    let m = c.in_ok-term.ensures in
    less-after c.below_zero.result _ _ _ m.0 (rw m.1 at c.below_zero.ensures)
