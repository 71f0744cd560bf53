use Rattle.std.proofs.lemmas.Result.{err_from_is_err_and}
use Rattle.cap_rules_steps.proofs.Walking.{made_claims, unmade_claims}
use Rattle.cap_open.proofs.opening.shift_head.Goals as goal

pub returns-in_err-shifting : goal.returns-in_err-shifting
returns-in_err-shifting c =
    let p = err_from_is_err_and c.from_residual.result c.from_residual.ensures.1 in
    rw (p.1, p.2) (unmade_claims _ _ _ _ c.in_err-shifting.ensures)

pub returns : goal.returns
returns c =
    let k = rw c.behind.ensures at c.shift.ensures in
    made_claims _ _ _ _ _ _ c.in_ok-shifting.ensures k
