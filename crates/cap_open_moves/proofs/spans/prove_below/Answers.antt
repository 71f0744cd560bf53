use Rattle.std.proofs.lemmas.Result.{err_from_is_err_and}
use Rattle.cap_rules_steps.proofs.Walking.{narrow_claims, wide_claims, weaker, done}
use Rattle.cap_open_moves.proofs.spans.prove_below.Goals as goal

pub returns-in-None : goal.returns-in-None
returns-in-None c = rw c.in-None.is (weaker _ _ _ (done _))

pub returns-in_err-next-in-Some : goal.returns-in_err-next-in-Some
returns-in_err-next-in-Some c =
    let p = err_from_is_err_and c.from_residual.result c.from_residual.ensures.1 in
    let m = rw c.constant-one.ensures at c.in_err-next-in-Some.ensures.exact in
    rw (c.in-Some.is, p.1, p.2) (wide_claims _ _ _ _ m)

pub returns-in_ok-next-in-Some : goal.returns-in_ok-next-in-Some
returns-in_ok-next-in-Some c =
    let k = rw c.constant-one.ensures at c.in_ok-next-in-Some.ensures.exact in
    let m = rw (k.1, c.rows.ensures) at c.prove_that.ensures in
    rw c.in-Some.is (narrow_claims _ _ _ _ _ k.0 m)
