use Rattle.std.proofs.Common.{rules}
use Rattle.std.proofs.lemmas.Int.{to_z-of_z}
use Rattle.std.proofs.lemmas.Result.{err_from_is_err_and}
use mir.Val.{SFits}
use mir.Syntax.{w128}
use Rattle.cap_lin.proofs.Results.{explains_first, exact_after}
use Rattle.cap_rules_steps.proofs.terms.with_multiple.Goals as goal

pub returns-in_err-multiple : goal.returns-in_err-multiple
returns-in_err-multiple c =
    let f : SFits w128 c.args.factor = search rules in
    let h = rw (to_z-of_z w128 _ f) at c.in_err-multiple.ensures.exact in
    let p = err_from_is_err_and c.from_residual.result c.from_residual.ensures.1 in
    rw (p.1, p.2) (explains_first _ _ _ h)

pub returns : goal.returns
returns c =
    let f : SFits w128 c.args.factor = search rules in
    let h = rw (to_z-of_z w128 _ f) at c.in_ok-multiple.ensures.exact in
    let k = rw h.1 at c.add.ensures.exact in
    exact_after _ _ _ _ h.0 k
