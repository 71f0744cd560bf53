use Rattle.std.proofs.lemmas.Result.{err_from_is_err_and}
use Rattle.cap_lin.proofs.Terms.{minus-first}
use Rattle.cap_resolve_forms.proofs.Differences.{minus_after}
use Rattle.cap_resolve_forms.proofs.forms.minus.Goals as goal

pub returns-in_err-negative : goal.returns-in_err-negative
returns-in_err-negative g c =
    let p = err_from_is_err_and c.from_residual.result c.from_residual.ensures.1 in
    rw (p.1, p.2) (minus-first _ _ _ c.in_err-negative.ensures)

pub returns : goal.returns
returns g c =
    let m = c.in_ok-negative.ensures in
    minus_after c.add.result g.F.LinearForm.form _ _ _ m.0 m.1 c.add.ensures
