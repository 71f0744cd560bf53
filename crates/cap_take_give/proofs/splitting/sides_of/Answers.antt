use Rattle.std.proofs.lemmas.Result.{err_from_is_err_and}
use Rattle.cap_take_give.proofs.splitting.sides_of.Goals as goal

pub returns-in_err-sides : goal.returns-in_err-sides
returns-in_err-sides c =
    let p = err_from_is_err_and c.from_residual-in_err-sides.result c.from_residual-in_err-sides.ensures.1 in
    let h = rw c.in_ok-state.ensures at c.in_err-sides.ensures in
    rw (p.1, p.2) h

pub returns : goal.returns
returns c = rw c.in_ok-state.ensures at c.in_ok-sides.ensures
