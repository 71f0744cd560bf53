use Rattle.std.proofs.lemmas.Result.{err_from_is_err_and}
use Rattle.cap_rules_steps.proofs.Walking.{then_made, unmade}
use Rattle.cap_open.proofs.opening.pick_head.Goals as goal

pub returns-in_err-closing : goal.returns-in_err-closing
returns-in_err-closing c =
    let p = err_from_is_err_and c.from_residual.result c.from_residual.ensures.1 in
    rw (p.1, p.2) (unmade _ _ _ c.in_err-closing.ensures)

pub returns : goal.returns
returns c =
    let k = rw c.behind.ensures at c.pick.ensures in
    then_made _ _ _ _ c.in_ok-closing.ensures k
