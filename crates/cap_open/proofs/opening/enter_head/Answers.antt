use Rattle.std.proofs.lemmas.Result.{err_from_is_err_and}
use Rattle.cap_rules_steps.proofs.Walking.{made_claims, unmade_claims}
use Rattle.cap_open.proofs.opening.enter_head.Goals as goal

pub returns-in_err-ahead : goal.returns-in_err-ahead
returns-in_err-ahead c =
    let p = err_from_is_err_and c.from_residual.result c.from_residual.ensures.1 in
    rw (p.1, p.2) (unmade_claims _ _ _ _ c.in_err-ahead.ensures)

pub returns : goal.returns
returns c =
    made_claims _ _ _ _ _ _ c.in_ok-ahead.ensures (c.enter.ensures)
