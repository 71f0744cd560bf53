use Rattle.std.proofs.lemmas.Result.{err_from_is_err_and}
use Rattle.cap_rules_steps.proofs.Walking.{then_made, unmade}
use Rattle.cap_take_give.proofs.giving.give_cell.Goals as goal

pub returns-in_err-address : goal.returns-in_err-address
returns-in_err-address c =
    let p = err_from_is_err_and c.from_residual.result c.from_residual.ensures.1 in
    rw (p.1, p.2) (unmade _ _ _ c.in_err-address.ensures)

pub returns-in_err-content : goal.returns-in_err-content
returns-in_err-content c =
    let p = err_from_is_err_and c.from_residual-in_err-content.result c.from_residual-in_err-content.ensures.1 in
    rw (p.1, p.2) (then_made _ _ _ _ c.in_ok-address.ensures (unmade _ _ _ c.in_err-content.ensures))

pub returns-in_err-with_cell : goal.returns-in_err-with_cell
returns-in_err-with_cell c =
    let p = err_from_is_err_and c.from_residual-in_err-with_cell.result c.from_residual-in_err-with_cell.ensures.1 in
    let h = rw c.in_ok-copy.ensures at c.in_err-with_cell.ensures in
    rw (p.1, p.2) (then_made _ _ _ _ c.in_ok-address.ensures (then_made _ _ _ _ c.in_ok-content.ensures (unmade _ _ _ h)))

pub returns : goal.returns
returns c =
    let h = rw c.in_ok-copy.ensures at c.in_ok-with_cell.ensures in
    let k = rw c.constant-one.ensures at c.with_comparison.ensures in
    then_made _ _ _ _ c.in_ok-address.ensures (then_made _ _ _ _ c.in_ok-content.ensures (then_made _ _ _ _ h k))
