use Rattle.std.proofs.lemmas.Result.{err_from_is_err_and}
use Rattle.cap_rules_steps.proofs.Walking.{done, then_made, unmade}
use Rattle.cap_take_give.proofs.giving.give_sides.Goals as goal

pub returns-in_err-left : goal.returns-in_err-left
returns-in_err-left c =
    let p = err_from_is_err_and c.from_residual.result c.from_residual.ensures.1 in
    rw (p.1, p.2) (unmade _ _ _ c.in_err-left.ensures)

pub returns-in_err-right : goal.returns-in_err-right
returns-in_err-right c =
    let p = err_from_is_err_and c.from_residual-in_err-right.result c.from_residual-in_err-right.ensures.1 in
    rw (p.1, p.2) (then_made _ _ _ _ c.in_ok-left.ensures (unmade _ _ _ c.in_err-right.ensures))

pub returns : goal.returns
returns c =
    then_made _ _ _ _ c.in_ok-left.ensures (then_made _ _ _ _ c.in_ok-right.ensures (done _))
