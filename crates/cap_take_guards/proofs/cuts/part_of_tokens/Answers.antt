use Rattle.std.proofs.Common.{refl}
use Rattle.std.proofs.lemmas.Result.{err_from_is_err_and}
use Rattle.cap_rules_steps.proofs.Walking.{narrow_claims, wide_claims, claims_value, claims_no_value, weaker, done_as}
use Rattle.cap_take_guards.proofs.cuts.part_of_tokens.Goals as goal

pub returns-in_err-value : goal.returns-in_err-value
returns-in_err-value c =
    let p = err_from_is_err_and c.from_residual.result c.from_residual.ensures.1 in
    let m = c.in_err-value.ensures in
    rw (p.1, p.2) (wide_claims _ _ _ _ m)

pub returns-in_err-prove_that : goal.returns-in_err-prove_that
returns-in_err-prove_that c =
    let p = err_from_is_err_and c.from_residual-in_err-prove_that.result c.from_residual-in_err-prove_that.ensures.1 in
    let k0 = c.in_ok-value.ensures in
    let m = rw (c.rows.ensures, c.constant-zero.ensures, c.in_ok-value.ensures.1) at c.in_err-prove_that.ensures in
    rw (p.1, p.2) (narrow_claims _ _ _ _ _ k0.0 (claims_no_value _ _ _ _ _ _ refl m))

pub returns-in_err-prove_that-2 : goal.returns-in_err-prove_that-2
returns-in_err-prove_that-2 c =
    let p = err_from_is_err_and c.from_residual-in_err-prove_that-2.result c.from_residual-in_err-prove_that-2.ensures.1 in
    let k0 = c.in_ok-value.ensures in
    let k1 = rw (c.rows.ensures, c.constant-zero.ensures, c.in_ok-value.ensures.1) at c.in_ok-prove_that.ensures in
    let m = rw (c.rows-2.ensures, c.in_ok-value.ensures.1) at c.in_err-prove_that-2.ensures in
    rw (p.1, p.2) (narrow_claims _ _ _ _ _ k0.0 (claims_value _ _ _ _ _ _ _ k1 (claims_no_value _ _ _ _ _ _ refl m)))

pub returns-in_err-rest : goal.returns-in_err-rest
returns-in_err-rest c =
    let p = err_from_is_err_and c.from_residual-in_err-rest.result c.from_residual-in_err-rest.ensures.1 in
    let k0 = c.in_ok-value.ensures in
    let k1 = rw (c.rows.ensures, c.constant-zero.ensures, c.in_ok-value.ensures.1) at c.in_ok-prove_that.ensures in
    let k2 = rw (c.rows-2.ensures, c.in_ok-value.ensures.1) at c.in_ok-prove_that-2.ensures in
    let m = rw (c.in_ok-value.ensures.1) at c.in_err-rest.ensures in
    rw (p.1, p.2) (narrow_claims _ _ _ _ _ k0.0 (claims_value _ _ _ _ _ _ _ k1 (claims_value _ _ _ _ _ _ _ k2 (wide_claims _ _ _ _ m))))

pub returns : goal.returns
returns c =
    let k0 = c.in_ok-value.ensures in
    let k1 = rw (c.rows.ensures, c.constant-zero.ensures, c.in_ok-value.ensures.1) at c.in_ok-prove_that.ensures in
    let k2 = rw (c.rows-2.ensures, c.in_ok-value.ensures.1) at c.in_ok-prove_that-2.ensures in
    let k3 = rw (c.in_ok-value.ensures.1) at c.in_ok-rest.ensures in
    let e = rw (k3.1) at c.in_ok-leaving.ensures in
    narrow_claims _ _ _ _ _ k0.0 (claims_value _ _ _ _ _ _ _ k1 (claims_value _ _ _ _ _ _ _ k2 (narrow_claims _ _ _ _ _ k3.0 (weaker _ _ _ (done_as _ _ e)))))
