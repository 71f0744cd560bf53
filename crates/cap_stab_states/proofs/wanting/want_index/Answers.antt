use Rattle.std.proofs.Common.{Some, ap}
use Rattle.std.proofs.lemmas.Result.{err_from_is_err_and}
use Rattle.cap_gsolve.specs.declared.piece.Form.TheVariants.{Span}
use Rattle.cap_rules_steps.proofs.Walking.{then_made, unmade, then_narrow, wide, done_as}
use Rattle.cap_stab_states.proofs.wanting.want_index.Goals as goal

pub returns-in_err-index : goal.returns-in_err-index
returns-in_err-index c =
    let p = err_from_is_err_and c.from_residual.result c.from_residual.ensures.1 in
    rw (p.1, p.2) (unmade _ _ _ c.in_err-index.ensures)

pub returns-in_err-next : goal.returns-in_err-next
returns-in_err-next c =
    let p = err_from_is_err_and c.from_residual-in_err-next.result c.from_residual-in_err-next.ensures.1 in
    let m = rw c.constant-one.ensures at c.in_err-next.ensures.exact in
    rw (p.1, p.2) (then_made _ _ _ _ c.in_ok-index.ensures (wide _ _ _ m))

pub returns : goal.returns
returns c =
    let k = rw c.constant-one.ensures at c.in_ok-next.ensures.exact in
    then_made _ _ _ _ c.in_ok-index.ensures (then_narrow _ _ _ k.0 (done_as _ _ (ap (λ t. Span c.in_ok-index.index (Some t)) k.1)))
