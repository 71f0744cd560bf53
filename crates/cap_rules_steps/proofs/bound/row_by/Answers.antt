use Rattle.std.proofs.lemmas.Result.{err_from_is_err_and}
use Rattle.cap_rules_steps.proofs.Walking.{then_made, unmade, all_narrow, last_wide}
use Rattle.cap_rules_steps.proofs.bound.row_by.Goals as goal

pub returns-in_err-left : goal.returns-in_err-left
returns-in_err-left c =
    let p = err_from_is_err_and c.from_residual.result c.from_residual.ensures.1 in
    rw (p.1, p.2) (unmade _ _ _ c.in_err-left.ensures)

pub returns-in_err-right : goal.returns-in_err-right
returns-in_err-right c =
    let p = err_from_is_err_and c.from_residual-in_err-right.result c.from_residual-in_err-right.ensures.1 in
    rw (p.1, p.2) (then_made _ _ _ _ c.in_ok-left.ensures (unmade _ _ _ c.in_err-right.ensures))

pub returns-in_err-of : goal.returns-in_err-of
returns-in_err-of c =
    let p = err_from_is_err_and c.from_residual-in_err-of.result c.from_residual-in_err-of.ensures.1 in
    rw (p.1, p.2) (then_made _ _ _ _ c.in_ok-left.ensures (then_made _ _ _ _ c.in_ok-right.ensures (last_wide _ _ _ c.in_err-of.ensures.exact)))

pub returns : goal.returns
returns c = rw c.in_ok-of.ensures.exact.1 (then_made _ _ _ _ c.in_ok-left.ensures (then_made _ _ _ _ c.in_ok-right.ensures (all_narrow _ _ c.in_ok-of.ensures.exact.0)))
