use Rattle.std.proofs.lemmas.Result.{err_from_is_err_and}
use Rattle.cap_rules_steps.proofs.Walking.{wide_claims, narrow_claims}
use Rattle.cap_stab_states.proofs.proving.prove_one.Goals as goal

pub returns-in_err-replaced : goal.returns-in_err-replaced
returns-in_err-replaced c =
    let p = err_from_is_err_and c.from_residual.result c.from_residual.ensures.1 in
    let h = rw c.sorts.ensures at c.in_err-replaced.ensures.exact in
    rw (p.1, p.2) (wide_claims _ _ _ _ h)

pub returns : goal.returns
returns c =
    let h = rw c.sorts.ensures at c.in_ok-replaced.ensures.exact in
    narrow_claims _ _ _ _ _ h.0 (rw h.1 at c.prove.ensures)
