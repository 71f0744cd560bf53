use Rattle.std.proofs.Common.{refl}
use Rattle.std.proofs.lemmas.Result.{err_from_is_err_and}
use Rattle.cap_rules_steps.proofs.Walking.{then_narrow, wide, done_as}
use Rattle.cap_pure.proofs.straight.set.Goals as goal

pub returns-in_err-value : goal.returns-in_err-value
returns-in_err-value c =
    let p = err_from_is_err_and c.from_residual.result c.from_residual.ensures.1 in
    rw (p.1, p.2) (wide _ _ _ c.in_err-value.ensures)

pub returns : goal.returns
returns c = then_narrow _ _ _ c.in_ok-value.ensures.0 (done_as _ _ (rw (c.in_ok-leaves.ensures, c.in_ok-with_local.ensures, c.in_ok-next.ensures, c.in_ok-value.ensures.1) refl))
