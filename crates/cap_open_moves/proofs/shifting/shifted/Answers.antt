use Rattle.std.proofs.lemmas.Result.{err_from_is_err_and}
use Rattle.cap_rules_steps.proofs.Walking.{claims_then, claims_fail, made_claims, unmade_claims}
use Rattle.cap_open_moves.proofs.shifting.shifted.Goals as goal

pub returns-in_err-prove_comparisons_at : goal.returns-in_err-prove_comparisons_at
returns-in_err-prove_comparisons_at c =
    let p = err_from_is_err_and c.from_residual.result c.from_residual.ensures.1 in
    let h = rw c.deref.ensures.value at c.in_err-prove_comparisons_at.ensures in
    rw (p.1, p.2) (claims_fail _ _ _ _ _ h)

pub returns-in_err-new : goal.returns-in_err-new
returns-in_err-new c =
    let p = err_from_is_err_and c.from_residual-in_err-new.result c.from_residual-in_err-new.ensures.1 in
    let h = rw c.deref.ensures.value at c.in_ok-prove_comparisons_at.ensures in
    rw (p.1, p.2) (claims_then _ _ _ _ _ _ _ h (unmade_claims _ _ _ _ c.in_err-new.ensures))

pub returns : goal.returns
returns c =
    let h = rw c.deref.ensures.value at c.in_ok-prove_comparisons_at.ensures in
    claims_then _ _ _ _ _ _ _ h (made_claims _ _ _ _ _ _ c.in_ok-new.ensures c.moved.ensures)
