use Rattle.std.proofs.Common.{ap}
use Rattle.std.proofs.lemmas.Result.{err_from_is_err_and}
use Rattle.cap_gsolve.specs.declared.piece.Form.TheVariants.{Src}
use Rattle.cap_lin.specs.Steps.{minus_steps}
use Rattle.cap_lin.proofs.Results.{explains_first, explains_later}
use Rattle.cap_gsolve.proofs.Steps.{both-narrow}
use Rattle.cap_gsolve.proofs.combine.left_out.Goals as goal

pub returns-in_err-rest-clause-exact : goal.returns-in_err-rest-clause-exact
returns-in_err-rest-clause-exact c =
    let p = err_from_is_err_and c.from_residual.result c.from_residual.ensures.1 in
    rw (p.1, p.2) (explains_first _ (minus_steps c.args.out.now c.args.back.now) _ c.in_err-rest.ensures)

pub returns-in_err-push_row-clause-exact : goal.returns-in_err-push_row-clause-exact
returns-in_err-push_row-clause-exact c =
    let p = err_from_is_err_and c.from_residual-in_err-push_row.result c.from_residual-in_err-push_row.ensures.1 in
    let m = c.in_ok-rest.ensures in
    rw (p.1, p.2) (explains_later _ (minus_steps c.args.out.now c.args.back.now) _ m.0 c.in_err-push_row.ensures)

pub returns : goal.returns
returns c =
    let m = c.in_ok-rest.ensures in
    let n = c.in_ok-push_row.ensures in
    record { exact = (both-narrow (minus_steps c.args.out.now c.args.back.now) _ m.0 n.0, ap Src m.1); rows = n.1 }
