use Rattle.std.proofs.lemmas.Result.{err_from_is_err_and}
use Rattle.cap_rules_steps.proofs.Walking.{made_claims, unmade_claims}
use Rattle.cap_offer.proofs.claims.has_item_address.Goals as goal

pub returns-in_err-value : goal.returns-in_err-value
returns-in_err-value c =
    let p = err_from_is_err_and c.from_residual.result c.from_residual.ensures.1 in
    rw (p.1, p.2) (unmade_claims _ _ _ _ c.in_err-value.ensures)

pub returns : goal.returns
returns c = made_claims _ _ _ _ _ _ c.in_ok-value.ensures c.prove_equal.ensures
