use Rattle.std.proofs.Common.{ap, ◌∙◌, ◌++◌, map}
use Rattle.std.proofs.lemmas.Result.{err_from_is_err_and}
use Rattle.cap_rules.specs.Attempts.{proved}
use Rattle.cap_rules_steps.specs.Places.{ended_by}
use Rattle.cap_rules_steps.proofs.Walking.{narrow_claims, wide_claims, one_claim}
use Rattle.cap_rules_steps.proofs.ledger.prove.Goals as goal

pub returns-in_err-negations : goal.returns-in_err-negations
returns-in_err-negations c =
    let p = err_from_is_err_and c.from_residual.result c.from_residual.ensures.1 in
    rw (p.1, p.2) (wide_claims _ _ _ _ c.in_err-negations.ensures.exact)

pub returns : goal.returns
returns c =
    let e = c.in_ok-owe_each.ensures ∙ ap (λ ns. c.args.ledger.now ++ map (ended_by c.args.rows.now) ns) c.deref.ensures.value ∙ ap (λ ns. c.args.ledger.now ++ map (ended_by c.args.rows.now) ns) c.in_ok-negations.ensures.exact.1 in
    narrow_claims _ _ _ _ _ c.in_ok-negations.ensures.exact.0 (one_claim _ (proved c.args.rows.now c.args.row.now) _ _ e)
