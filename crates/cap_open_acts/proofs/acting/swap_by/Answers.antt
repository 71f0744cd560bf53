use Rattle.std.proofs.lemmas.Result.{err_from_is_err_and}
use Rattle.cap_rules_steps.proofs.Walking.{then_made, unmade, then_narrow, wide, no_memory, done_as}
use Rattle.cap_open_acts.proofs.acting.swap_by.Goals as goal

pub returns-in_err-done : goal.returns-in_err-done
returns-in_err-done c =
    let p = err_from_is_err_and c.from_residual.result c.from_residual.ensures.1 in
    rw (p.1, p.2) (unmade _ _ _ c.in_err-done.ensures)

pub returns-in_err-content : goal.returns-in_err-content
returns-in_err-content c =
    let p = err_from_is_err_and c.from_residual-in_err-content.result c.from_residual-in_err-content.ensures.1 in
    rw (p.1, p.2) (then_made _ _ _ _ c.in_ok-done.ensures (wide _ _ _ c.in_err-content.ensures))

pub returns-in_err-failed : goal.returns-in_err-failed
returns-in_err-failed c =
    let p = err_from_is_err_and c.from_residual-in_err-failed.result c.from_residual-in_err-failed.ensures.1 in
    rw (p.1, p.2) (then_made _ _ _ _ c.in_ok-done.ensures (then_narrow _ _ _ c.in_ok-content.ensures.0 (unmade _ _ _ c.in_err-failed.ensures)))

pub returns-in_err-swap_outcomes : goal.returns-in_err-swap_outcomes
returns-in_err-swap_outcomes c =
    let p = err_from_is_err_and c.from_residual-in_err-swap_outcomes.result c.from_residual-in_err-swap_outcomes.ensures.1 in
    rw (p.1, p.2) (then_made _ _ _ _ c.in_ok-done.ensures (then_narrow _ _ _ c.in_ok-content.ensures.0 (then_made _ _ _ _ c.in_ok-failed.ensures (no_memory _))))

pub returns : goal.returns
returns c =
    let e = rw c.in_ok-content.ensures.1 at c.in_ok-swap_outcomes.ensures in
    then_made _ _ _ _ c.in_ok-done.ensures (then_narrow _ _ _ c.in_ok-content.ensures.0 (then_made _ _ _ _ c.in_ok-failed.ensures (done_as _ _ e)))
