use Rattle.std.proofs.lemmas.Result.{err_from_is_err_and}
use Rattle.cap_rules_steps.proofs.Walking.{claims_then, claims_fail, made_claims, unmade_claims, weaker, done}
use Rattle.cap_open_moves.proofs.turning.up_to_spans.Goals as goal

pub returns-in_err-prove_comparisons : goal.returns-in_err-prove_comparisons
returns-in_err-prove_comparisons c =
    let p = err_from_is_err_and c.from_residual.result c.from_residual.ensures.1 in
    let g = rw (c.rows.ensures, c.deref.ensures.value) at c.in_err-prove_comparisons.ensures in
    rw (p.1, p.2) (claims_fail _ _ _ _ _ g)

pub returns-in_err-new : goal.returns-in_err-new
returns-in_err-new c =
    let p = err_from_is_err_and c.from_residual-in_err-new.result c.from_residual-in_err-new.ensures.1 in
    let g = rw (c.rows.ensures, c.deref.ensures.value) at c.in_ok-prove_comparisons.ensures in
    rw (p.1, p.2) (claims_then _ _ _ _ _ _ _ g (unmade_claims _ _ _ _ c.in_err-new.ensures))

pub returns-in_err-waiting : goal.returns-in_err-waiting
returns-in_err-waiting c =
    let p = err_from_is_err_and c.from_residual-in_err-waiting.result c.from_residual-in_err-waiting.ensures.1 in
    let g = rw (c.rows.ensures, c.deref.ensures.value) at c.in_ok-prove_comparisons.ensures in
    let h = rw (c.in_ok-names.ensures, c.deref-2.ensures.value, c.in_ok-parts.ensures) at c.in_err-waiting.ensures in
    rw (p.1, p.2) (claims_then _ _ _ _ _ _ _ g (made_claims _ _ _ _ _ _ c.in_ok-new.ensures (claims_fail _ _ _ _ _ h)))

pub returns-in_err-match_all : goal.returns-in_err-match_all
returns-in_err-match_all c =
    let p = err_from_is_err_and c.from_residual-in_err-match_all.result c.from_residual-in_err-match_all.ensures.1 in
    let g = rw (c.rows.ensures, c.deref.ensures.value) at c.in_ok-prove_comparisons.ensures in
    let h = rw (c.in_ok-names.ensures, c.deref-2.ensures.value, c.in_ok-parts.ensures) at c.in_ok-waiting.ensures in
    let k = rw c.deref-3.ensures.value at c.in_err-match_all.ensures in
    rw (p.1, p.2) (claims_then _ _ _ _ _ _ _ g (made_claims _ _ _ _ _ _ c.in_ok-new.ensures (claims_then _ _ _ _ _ _ _ h (claims_fail _ _ _ _ _ k))))

pub returns : goal.returns
returns c =
    let g = rw (c.rows.ensures, c.deref.ensures.value) at c.in_ok-prove_comparisons.ensures in
    let h = rw (c.in_ok-names.ensures, c.deref-2.ensures.value, c.in_ok-parts.ensures) at c.in_ok-waiting.ensures in
    let k = rw c.deref-3.ensures.value at c.in_ok-match_all.ensures in
    claims_then _ _ _ _ _ _ _ g (made_claims _ _ _ _ _ _ c.in_ok-new.ensures (claims_then _ _ _ _ _ _ _ h (claims_then _ _ _ _ _ _ _ k (weaker _ _ _ (done _)))))
