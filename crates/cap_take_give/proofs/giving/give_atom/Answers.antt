use Rattle.std.proofs.lemmas.Result.{err_from_is_err_and}
use Rattle.cap_rules_steps.proofs.Walking.{then_made, unmade}
use Rattle.cap_take_give.proofs.giving.give_atom.Goals as goal

pub returns-in_err-region : goal.returns-in_err-region
returns-in_err-region c =
    let p = err_from_is_err_and c.from_residual.result c.from_residual.ensures.1 in
    rw (p.1, p.2) (unmade _ _ _ c.in_err-region.ensures)

pub returns-in_err-form : goal.returns-in_err-form
returns-in_err-form c =
    let p = err_from_is_err_and c.from_residual-in_err-form.result c.from_residual-in_err-form.ensures.1 in
    rw (p.1, p.2) (then_made _ _ _ _ c.in_ok-region.ensures (unmade _ _ _ c.in_err-form.ensures))

pub returns : goal.returns
returns c = then_made _ _ _ _ c.in_ok-region.ensures (then_made _ _ _ _ c.in_ok-form.ensures c.with_piece.ensures)
