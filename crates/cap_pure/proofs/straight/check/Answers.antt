use Rattle.std.proofs.Common.{refl}
use Rattle.std.proofs.lemmas.Result.{err_from_is_err_and}
use Rattle.cap_rules_steps.proofs.Walking.{value_claims, no_value_claims, claims_value, claims_no_value, value_is, weaker, done_as}
use Rattle.cap_pure.proofs.straight.check.Goals as goal

pub returns-in_err-row : goal.returns-in_err-row
returns-in_err-row c =
    let p = err_from_is_err_and c.from_residual.result c.from_residual.ensures.1 in
    rw (p.1, p.2) (no_value_claims _ _ _ _ _ refl c.in_err-row.ensures)

pub returns-in_err-prove : goal.returns-in_err-prove
returns-in_err-prove c =
    let p = err_from_is_err_and c.from_residual-in_err-prove.result c.from_residual-in_err-prove.ensures.1 in
    let e = value_is _ _ _ refl c.in_ok-row.ensures in
    let k = rw (e, c.rows.ensures) at c.in_err-prove.ensures in
    rw (p.1, p.2) (value_claims _ _ _ _ _ _ c.in_ok-row.ensures (claims_no_value _ _ _ _ _ _ refl k))

pub returns : goal.returns
returns c =
    let e = value_is _ _ _ refl c.in_ok-row.ensures in
    let k = rw (e, c.rows.ensures) at c.in_ok-prove.ensures in
    value_claims _ _ _ _ _ _ c.in_ok-row.ensures (claims_value _ _ _ _ _ _ _ k (weaker _ _ _ (done_as _ _ (rw (c.in_ok-leaves.ensures, c.in_ok-next.ensures) refl))))
