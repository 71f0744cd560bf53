use Rattle.std.proofs.lemmas.Result.{err_from_is_err_and}
use Rattle.cap_rules_steps.proofs.Walking.{narrow_claims, wide_claims}
use Rattle.cap_rules_steps.proofs.ledger.prove_that.Goals as goal

pub returns-in_err-row : goal.returns-in_err-row
returns-in_err-row c =
    let p = err_from_is_err_and c.from_residual.result c.from_residual.ensures.1 in
    rw (p.1, p.2) (wide_claims _ _ _ _ c.in_err-row.ensures.exact)

pub returns : goal.returns
returns c =
    let h = rw c.in_ok-row.ensures.exact.1 at c.prove.ensures in
    narrow_claims _ _ _ _ _ c.in_ok-row.ensures.exact.0 h
