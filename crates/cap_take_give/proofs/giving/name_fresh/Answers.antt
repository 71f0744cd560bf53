use Rattle.std.proofs.lemmas.Result.{err_from_is_err_and}
use Rattle.cap_rules_steps.proofs.Walking.{done_as, no_memory, then_made, unmade}
use Rattle.std.proofs.Common.{refl}
use Rattle.cap_take_give.proofs.giving.name_fresh.Goals as goal

pub returns-in_err-names : goal.returns-in_err-names
returns-in_err-names c =
    let p = err_from_is_err_and c.from_residual.result c.from_residual.ensures.1 in
    rw (p.1, p.2) (no_memory _)

pub returns-in_err-fresh : goal.returns-in_err-fresh
returns-in_err-fresh c =
    let p = err_from_is_err_and c.from_residual-in_err-fresh.result c.from_residual-in_err-fresh.ensures.1 in
    rw (p.1, p.2) (unmade _ _ _ c.in_err-fresh.ensures.makes)

pub returns-in_err-bind_open : goal.returns-in_err-bind_open
returns-in_err-bind_open c =
    let p = err_from_is_err_and c.from_residual-in_err-bind_open.result c.from_residual-in_err-bind_open.ensures.1 in
    rw (p.1, p.2) (no_memory _)

pub returns-in_err-with_env_at : goal.returns-in_err-with_env_at
returns-in_err-with_env_at c =
    let p = err_from_is_err_and c.from_residual-in_err-with_env_at.result c.from_residual-in_err-with_env_at.ensures.1 in
    rw (p.1, p.2) (no_memory _)

pub returns : goal.returns
returns c =
    then_made _ _ _ _ c.in_ok-fresh.ensures.makes (done_as _ _ (rw (c.in_ok-with_env_at.ensures, c.in_ok-bind_open.ensures, c.in_ok-names.ensures, c.in_ok-fresh.ensures.fresh) refl))
