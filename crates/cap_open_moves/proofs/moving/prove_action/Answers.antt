use Rattle.std.proofs.lemmas.Result.{err_from_is_err_and}
use Rattle.cap_rules_steps.proofs.Walking.{claims_then, claims_fail}
use Rattle.cap_open_moves.proofs.moving.prove_action.Goals as goal

pub returns-in_err-waiting : goal.returns-in_err-waiting
returns-in_err-waiting c =
    let p = err_from_is_err_and c.from_residual-in_err-waiting.result c.from_residual-in_err-waiting.ensures.1 in
    let h = rw (c.in_ok-env.ensures, c.deref.ensures.value, c.in_ok-parts.ensures) at c.in_err-waiting.ensures in
    rw (p.1, p.2) (claims_fail _ _ _ _ _ h)

pub returns-in_err-match_all : goal.returns-in_err-match_all
returns-in_err-match_all c =
    let p = err_from_is_err_and c.from_residual-in_err-match_all.result c.from_residual-in_err-match_all.ensures.1 in
    let h = rw (c.in_ok-env.ensures, c.deref.ensures.value, c.in_ok-parts.ensures) at c.in_ok-waiting.ensures in
    let k = rw c.deref-2.ensures.value at c.in_err-match_all.ensures in
    rw (p.1, p.2) (claims_then _ _ _ _ _ _ _ h (claims_fail _ _ _ _ _ k))

pub returns-in_err-match_spans : goal.returns-in_err-match_spans
returns-in_err-match_spans c =
    let p = err_from_is_err_and c.from_residual-in_err-match_spans.result c.from_residual-in_err-match_spans.ensures.1 in
    let h = rw (c.in_ok-env.ensures, c.deref.ensures.value, c.in_ok-parts.ensures) at c.in_ok-waiting.ensures in
    let k = rw c.deref-2.ensures.value at c.in_ok-match_all.ensures in
    let m = rw c.deref-3.ensures.value at c.in_err-match_spans.ensures in
    rw (p.1, p.2) (claims_then _ _ _ _ _ _ _ h (claims_then _ _ _ _ _ _ _ k (claims_fail _ _ _ _ _ m)))

pub returns : goal.returns
returns c =
    let h = rw (c.in_ok-env.ensures, c.deref.ensures.value, c.in_ok-parts.ensures) at c.in_ok-waiting.ensures in
    let k = rw c.deref-2.ensures.value at c.in_ok-match_all.ensures in
    let m = rw c.deref-3.ensures.value at c.in_ok-match_spans.ensures in
    claims_then _ _ _ _ _ _ _ h (claims_then _ _ _ _ _ _ _ k (claims_then _ _ _ _ _ _ _ m c.prove_when.ensures))
