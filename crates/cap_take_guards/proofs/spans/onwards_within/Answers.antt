use Rattle.std.proofs.Common.{refl}
use Rattle.std.proofs.lemmas.Result.{err_from_is_err_and}
use Rattle.cap_rules_steps.proofs.Walking.{narrow_claims, wide_claims, claims_value, claims_no_value, weaker, done_as}
use Rattle.cap_take_guards.proofs.spans.onwards_within.Goals as goal

pub returns-in_err-index : goal.returns-in_err-index
returns-in_err-index c =
    let p = err_from_is_err_and c.from_residual.result c.from_residual.ensures.1 in
    let m = c.in_err-index.ensures in
    rw (p.1, p.2) (wide_claims _ _ _ _ m)

pub returns-in_err-prove_that : goal.returns-in_err-prove_that
returns-in_err-prove_that c =
    let p = err_from_is_err_and c.from_residual-in_err-prove_that.result c.from_residual-in_err-prove_that.ensures.1 in
    let k0 = c.in_ok-index.ensures in
    let m = rw (c.rows.ensures, c.in_ok-index.ensures.1) at c.in_err-prove_that.ensures in
    rw (p.1, p.2) (narrow_claims _ _ _ _ _ k0.0 (claims_no_value _ _ _ _ _ _ refl m))

pub returns : goal.returns
returns c =
    let k0 = c.in_ok-index.ensures in
    let k1 = rw (c.rows.ensures, c.in_ok-index.ensures.1) at c.in_ok-prove_that.ensures in
    let e = rw (c.in_ok-copy.ensures, c.in_ok-index.ensures.1) at c.in_ok-leaving.ensures in
    narrow_claims _ _ _ _ _ k0.0 (claims_value _ _ _ _ _ _ _ k1 (weaker _ _ _ (done_as _ _ e)))
