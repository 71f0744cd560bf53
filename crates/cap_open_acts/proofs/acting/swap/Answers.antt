use Rattle.std.proofs.lemmas.Result.{err_from_is_err_and}
use Rattle.cap_rules_steps.proofs.Walking.{then_narrow, wide}
use Rattle.cap_open_acts.proofs.acting.swap.Goals as goal

pub returns-in_err-expected : goal.returns-in_err-expected
returns-in_err-expected c =
    let p = err_from_is_err_and c.from_residual.result c.from_residual.ensures.1 in
    rw (p.1, p.2) (wide _ _ _ c.in_err-expected.ensures)

pub returns : goal.returns
returns c =
    let k = rw c.in_ok-expected.ensures.1 at c.swap_by.ensures in
    then_narrow _ _ _ c.in_ok-expected.ensures.0 (k)
