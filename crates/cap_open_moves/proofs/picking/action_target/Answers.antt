use Rattle.std.proofs.lemmas.Result.{err_from_is_err_and}
use Rattle.cap_rules_steps.proofs.Walking.{then_made, unmade}
use Rattle.cap_open_moves.proofs.picking.action_target.Goals as goal

pub returns-in_err-action : goal.returns-in_err-action
returns-in_err-action c =
    let p = err_from_is_err_and c.from_residual.result c.from_residual.ensures.1 in
    rw (p.1, p.2) (unmade _ _ _ c.in_err-action.ensures)

pub returns : goal.returns
returns c =
    let k = rw c.in_ok-env.ensures at c.determined.ensures in
    then_made _ _ _ _ c.in_ok-action.ensures k
