use Rattle.std.proofs.lemmas.Result.{err_from_is_err_and}
use Rattle.cap_rules_steps.proofs.Walking.{narrow_claims, wide_claims}
use Rattle.cap_offer.proofs.claims.has_value.Goals as goal

pub returns-in_err-value : goal.returns-in_err-value
returns-in_err-value c =
    let p = err_from_is_err_and c.from_residual.result c.from_residual.ensures.1 in
    rw (p.1, p.2) (wide_claims _ _ _ _ c.in_err-value.ensures)

pub returns : goal.returns
returns c =
    let h = rw c.in_ok-value.ensures.1 at c.prove_equal.ensures in
    narrow_claims _ _ _ _ _ c.in_ok-value.ensures.0 h
