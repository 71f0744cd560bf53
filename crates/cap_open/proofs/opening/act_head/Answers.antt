use Rattle.std.proofs.lemmas.Result.{err_from_is_err_and}
use Rattle.cap_rules_steps.proofs.Walking.{made_claims, unmade_claims, no_memory_claims}
use Rattle.cap_open.proofs.opening.act_head.Goals as goal

pub returns-in_err-ahead : goal.returns-in_err-ahead
returns-in_err-ahead c =
    let p = err_from_is_err_and c.from_residual.result c.from_residual.ensures.1 in
    rw (p.1, p.2) (unmade_claims _ _ _ _ c.in_err-ahead.ensures)

pub returns-in_err-after : goal.returns-in_err-after
returns-in_err-after c =
    let p = err_from_is_err_and c.from_residual-in_err-after.result c.from_residual-in_err-after.ensures.1 in
    rw (p.1, p.2) (made_claims _ _ _ _ _ _ c.in_ok-ahead.ensures (no_memory_claims _ _ _))

pub returns : goal.returns
returns c =
    let k = rw (c.deref.ensures.value, c.in_ok-after.ensures, c.behind.ensures) at c.act.ensures in
    made_claims _ _ _ _ _ _ c.in_ok-ahead.ensures (k)
