use Rattle.std.proofs.lemmas.Result.{err_from_is_err_and}
use Rattle.cap_rules_steps.proofs.Walking.{made_claims, unmade_claims}
use Rattle.cap_stab_states.specs.Asking.{rows_seen}
use Rattle.cap_stab_states.proofs.proving.prove_kept_for.Goals as goal

pub returns-in_err-rows : goal.returns-in_err-rows
returns-in_err-rows c =
    let p = err_from_is_err_and c.from_residual-in_err-rows.result c.from_residual-in_err-rows.ensures.1 in
    let h = rw (c.deref.ensures.value, c.in_ok-names.ensures.terms, c.requires.known) at c.in_err-rows.ensures in
    rw (p.1, p.2) (unmade_claims _ _ _ _ h)

pub returns : goal.returns
returns c =
    let h = rw (c.deref.ensures.value, c.in_ok-names.ensures.terms, c.requires.known) at c.in_ok-rows.ensures in
    let k = rw (c.deref-3.ensures.value, c.in_ok-names.ensures.terms) at c.prove_same.ensures in
    made_claims _ _ _ (rows_seen c.in_ok-rows.rows) _ _ h k
