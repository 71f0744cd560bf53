use Rattle.std.proofs.lemmas.Result.{err_from_is_err_and}
use Rattle.cap_rules_steps.proofs.Walking.{then_made, unmade}
use Rattle.cap_take_create.proofs.created.with_begun.Goals as goal

pub returns-in_err-created-clause-makes : goal.returns-in_err-created-clause-makes
returns-in_err-created-clause-makes c =
    let p = err_from_is_err_and c.from_residual-in_err-created.result c.from_residual-in_err-created.ensures.1 in
    rw (p.1, p.2) (unmade _ _ _ c.in_err-created.ensures.makes)

pub returns-in_err-names-clause-makes : goal.returns-in_err-names-clause-makes
returns-in_err-names-clause-makes c =
    let p = err_from_is_err_and c.from_residual-in_err-names.result c.from_residual-in_err-names.ensures.1 in
    let e = rw (c.in_ok-known.ensures, c.in_ok-created.ensures.fresh) at c.in_err-names.ensures in
    rw (p.1, p.2) (then_made _ _ _ _ c.in_ok-created.ensures.makes (unmade _ _ _ e))

pub returns-in_err-with_env-clause-makes : goal.returns-in_err-with_env-clause-makes
returns-in_err-with_env-clause-makes c =
    let p = err_from_is_err_and c.from_residual-in_err-with_env.result c.from_residual-in_err-with_env.ensures.1 in
    let e = rw (c.in_ok-known.ensures, c.in_ok-created.ensures.fresh) at c.in_ok-names.ensures in
    rw (p.1, p.2) (then_made _ _ _ _ c.in_ok-created.ensures.makes (then_made _ _ _ _ e c.in_err-with_env.ensures.makes))

pub returns-clause-makes : goal.returns-clause-makes
returns-clause-makes c =
    let e = rw (c.in_ok-known.ensures, c.in_ok-created.ensures.fresh) at c.in_ok-names.ensures in
    then_made _ _ _ _ c.in_ok-created.ensures.makes (then_made _ _ _ _ e c.in_ok-with_env.ensures.makes)
