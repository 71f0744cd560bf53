use Rattle.std.proofs.lemmas.Result.{err_from_is_err_and}
use Rattle.cap_rules_steps.proofs.Walking.{no_memory}
use Rattle.cap_pure.proofs.calls.at_home.Goals as goal

pub returns-in_err-env-clause-makes : goal.returns-in_err-env-clause-makes
returns-in_err-env-clause-makes c =
    let p = err_from_is_err_and c.from_residual.result c.from_residual.ensures.1 in
    rw (p.1, p.2, c.in_err-env.ensures) (no_memory _)
