use Rattle.std.proofs.lemmas.Result.{err_from_is_err_and}
use Rattle.cap_rules_steps.proofs.Walking.{then_narrow, wide}
use Rattle.cap_pure.proofs.allocation.with_new_cell.Goals as goal

pub returns-in_err-address : goal.returns-in_err-address
returns-in_err-address c =
    let p = err_from_is_err_and c.from_residual.result c.from_residual.ensures.1 in
    let h = rw c.whole-offset.ensures at c.in_err-address.ensures.exact in
    rw (p.1, p.2) (wide _ _ _ h)

pub returns : goal.returns
returns c =
    let h = rw c.whole-offset.ensures at c.in_ok-address.ensures.exact in
    let k = rw (h.1, c.constant.ensures) at c.with_cell.ensures in
    then_narrow _ _ _ h.0 k
