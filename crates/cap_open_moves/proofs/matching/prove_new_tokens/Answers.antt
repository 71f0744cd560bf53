use Rattle.std.proofs.Common.{refl}
use Rattle.std.proofs.lemmas.Result.{err_from_is_err_and}
use Rattle.cap_rules_steps.proofs.Walking.{narrow_claims, wide_claims, claims_value, claims_no_value, weaker, done}
use Rattle.cap_open_moves.proofs.matching.prove_new_tokens.Goals as goal

pub returns-in_err-value : goal.returns-in_err-value
returns-in_err-value c =
    let p = err_from_is_err_and c.from_residual.result c.from_residual.ensures.1 in
    rw (p.1, p.2) (wide_claims _ _ _ _ c.in_err-value.ensures)

pub returns-in_err-prove_that : goal.returns-in_err-prove_that
returns-in_err-prove_that c =
    let p = err_from_is_err_and c.from_residual-in_err-prove_that.result c.from_residual-in_err-prove_that.ensures.1 in
    let k = rw (c.in_ok-value.ensures.1, c.constant-zero.ensures, c.rows.ensures) at c.in_err-prove_that.ensures in
    rw (p.1, p.2) (narrow_claims _ _ _ _ _ c.in_ok-value.ensures.0 (claims_no_value _ _ _ _ _ _ refl k))

pub returns : goal.returns
returns c =
    let k = rw (c.in_ok-value.ensures.1, c.constant-zero.ensures, c.rows.ensures) at c.in_ok-prove_that.ensures in
    narrow_claims _ _ _ _ _ c.in_ok-value.ensures.0 (claims_value _ _ _ _ _ _ _ k (weaker _ _ _ (done _)))
