use Rattle.std.proofs.lemmas.Result.{err_from_is_err_and}
use Rattle.cap_rules_steps.proofs.Walking.{then_narrow, wide, last_wide, all_narrow}
use Rattle.cap_stab_states.proofs.wanting.row_over.Goals as goal

pub returns-in_err-left : goal.returns-in_err-left
returns-in_err-left c =
    let p = err_from_is_err_and c.from_residual.result c.from_residual.ensures.1 in
    rw (p.1, p.2) (wide _ _ _ c.in_err-left.ensures)

pub returns-in_err-right : goal.returns-in_err-right
returns-in_err-right c =
    let p = err_from_is_err_and c.from_residual-in_err-right.result c.from_residual-in_err-right.ensures.1 in
    rw (p.1, p.2) (then_narrow _ _ _ c.in_ok-left.ensures.0 (wide _ _ _ c.in_err-right.ensures))

pub returns-in_err-of : goal.returns-in_err-of
returns-in_err-of c =
    let p = err_from_is_err_and c.from_residual-in_err-of.result c.from_residual-in_err-of.ensures.1 in
    let h = rw (c.in_ok-left.ensures.1, c.in_ok-right.ensures.1) at c.in_err-of.ensures.exact in
    rw (p.1, p.2) (then_narrow _ _ _ c.in_ok-left.ensures.0 (then_narrow _ _ _ c.in_ok-right.ensures.0 (last_wide _ _ _ h)))

pub returns : goal.returns
returns c =
    let h = rw (c.in_ok-left.ensures.1, c.in_ok-right.ensures.1) at c.in_ok-of.ensures.exact in
    rw h.1 (then_narrow _ _ _ c.in_ok-left.ensures.0 (then_narrow _ _ _ c.in_ok-right.ensures.0 (all_narrow _ _ h.0)))
