use Rattle.std.proofs.lemmas.Result.{err_from_is_err_and}
use Rattle.cap_rules_steps.proofs.Walking.{then_made, unmade, done_as}
use Rattle.cap_open_moves.proofs.shifting.with_closed.Goals as goal

pub returns-in_err-with_fact : goal.returns-in_err-with_fact
returns-in_err-with_fact c =
    let p = err_from_is_err_and c.from_residual-in_err-with_fact.result c.from_residual-in_err-with_fact.ensures.1 in
    let h = rw (c.in_ok-remove_opened.ensures, c.in_ok-next.ensures, c.in_ok-closed.ensures) at c.in_err-with_fact.ensures in
    rw (p.1, p.2) (unmade _ _ _ h)

pub returns : goal.returns
returns c =
    let h = rw (c.in_ok-remove_opened.ensures, c.in_ok-next.ensures, c.in_ok-closed.ensures) at c.in_ok-with_fact.ensures in
    then_made _ _ _ _ h (done_as _ _ c.in_ok-end_step.ensures)
