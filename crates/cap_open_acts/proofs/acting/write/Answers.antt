use Rattle.std.proofs.lemmas.Result.{err_from_is_err_and}
use Rattle.cap_rules_steps.proofs.Walking.{then_narrow, wide, no_memory, done_as}
use Rattle.cap_open_acts.proofs.acting.write.Goals as goal

pub returns-in_err-content : goal.returns-in_err-content
returns-in_err-content c =
    let p = err_from_is_err_and c.from_residual.result c.from_residual.ensures.1 in
    rw (p.1, p.2) (wide _ _ _ c.in_err-content.ensures)

pub returns-in_err-next : goal.returns-in_err-next
returns-in_err-next c =
    let p = err_from_is_err_and c.from_residual-in_err-next.result c.from_residual-in_err-next.ensures.1 in
    rw (p.1, p.2) (then_narrow _ _ _ c.in_ok-content.ensures.0 (no_memory _))

pub returns-in_err-with_content : goal.returns-in_err-with_content
returns-in_err-with_content c =
    let p = err_from_is_err_and c.from_residual-in_err-with_content.result c.from_residual-in_err-with_content.ensures.1 in
    rw (p.1, p.2) (then_narrow _ _ _ c.in_ok-content.ensures.0 (no_memory _))

pub returns : goal.returns
returns c =
    let e = rw (c.in_ok-next.ensures, c.in_ok-content.ensures.1) at c.in_ok-with_content.ensures in
    then_narrow _ _ _ c.in_ok-content.ensures.0 (done_as _ _ e)
