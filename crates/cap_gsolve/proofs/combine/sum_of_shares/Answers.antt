use Rattle.std.proofs.Common.{subst}
use Rattle.std.proofs.lemmas.Result.{err_from_is_err_and}
use Rattle.cap_lin.specs.Steps.{plus_steps}
use Rattle.cap_lin.specs.Exact.{Explains}
use Rattle.cap_lin.specs.Rows.{row_of_steps}
use Rattle.cap_lin.specs.declared.row.Sort.TheVariants.{Perm}
use Rattle.cap_lin.specs.declared.row.Op.TheVariants.{Le as AtMost}
use Rattle.cap_gsolve.specs.Merge.{one_term}
use Rattle.cap_lin.proofs.Results.{explains_first, explains_later}
use Rattle.cap_gsolve.proofs.Steps.{both-narrow}
use Rattle.cap_gsolve.proofs.combine.sum_of_shares.Goals as goal

pub returns-in_err-sum-clause-exact : goal.returns-in_err-sum-clause-exact
returns-in_err-sum-clause-exact c =
    let p = err_from_is_err_and c.from_residual.result c.from_residual.ensures.1 in
    rw (p.1, p.2) (explains_first _ (plus_steps c.args.a.now c.args.b.now) _ c.in_err-sum.ensures.exact)

pub returns-in_err-push_row-clause-exact : goal.returns-in_err-push_row-clause-exact
returns-in_err-push_row-clause-exact c =
    let p = err_from_is_err_and c.from_residual-in_err-push_row.result c.from_residual-in_err-push_row.ensures.1 in
    let m = c.in_ok-sum.ensures.exact in
    let h : Explains c.in_err-push_row.field-0.0 (row_of_steps c.in_ok-sum.sum AtMost one_term Perm) = rw c.constant-one.ensures at c.in_err-push_row.ensures in
    rw (p.1, p.2) (explains_later _ (plus_steps c.args.a.now c.args.b.now) _ m.0 (subst (λ t. Explains c.in_err-push_row.field-0.0 (row_of_steps t AtMost one_term Perm)) m.1 h))

pub returns : goal.returns
returns c =
    let m = c.in_ok-sum.ensures.exact in
    let n = rw (c.constant-one.ensures, m.1) at c.in_ok-push_row.ensures in
    record { exact = (both-narrow (plus_steps c.args.a.now c.args.b.now) _ m.0 n.0, m.1); rows = n.1 }
