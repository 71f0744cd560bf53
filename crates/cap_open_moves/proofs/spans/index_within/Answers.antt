use Rattle.std.proofs.Common.{refl}
use Rattle.std.proofs.lemmas.Result.{err_from_is_err_and}
use Rattle.cap_rules_steps.proofs.Walking.{claims_value, claims_no_value, weaker, inapplicable}
use Rattle.cap_open_moves.proofs.spans.index_within.Goals as goal

pub returns-in_err-prove_that-in-Span : goal.returns-in_err-prove_that-in-Span
returns-in_err-prove_that-in-Span c x =
    let p = err_from_is_err_and c.from_residual.result c.from_residual.ensures.1 in
    let m = rw c.rows.ensures at c.in_err-prove_that-in-Span.ensures in
    rw (c.in-Span.is, p.1, p.2) (claims_no_value _ _ _ _ _ _ refl m)

pub returns-in_ok-prove_that-in-Span : goal.returns-in_ok-prove_that-in-Span
returns-in_ok-prove_that-in-Span c x =
    let k = rw c.rows.ensures at c.in_ok-prove_that-in-Span.ensures in
    rw c.in-Span.is (claims_value _ _ _ _ _ _ _ k c.prove_below.ensures)

pub returns-in-One : goal.returns-in-One
returns-in-One c x = rw c.in-One.is (weaker _ _ _ inapplicable)

pub returns-in-Share : goal.returns-in-Share
returns-in-Share c x = rw c.in-Share.is (weaker _ _ _ inapplicable)

pub returns-in-Src : goal.returns-in-Src
returns-in-Src c x = rw c.in-Src.is (weaker _ _ _ inapplicable)

pub returns-in-Tok : goal.returns-in-Tok
returns-in-Tok c x = rw c.in-Tok.is (weaker _ _ _ inapplicable)
