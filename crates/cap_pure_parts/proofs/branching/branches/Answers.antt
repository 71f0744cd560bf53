use Rattle.std.proofs.Common.{refl}
use Rattle.std.proofs.lemmas.Result.{err_from_is_err_and}
use Rattle.cap_rules_steps.proofs.Walking.{then_made, unmade, then_value, no_value, value_is, no_memory, done_as}
use Rattle.cap_pure_parts.proofs.branching.branches.Goals as goal

pub returns-in_err-row : goal.returns-in_err-row
returns-in_err-row c =
    let p = err_from_is_err_and c.from_residual.result c.from_residual.ensures.1 in
    rw (p.1, p.2) (no_value _ _ _ _ refl c.in_err-row.ensures)

pub returns-in_err-first : goal.returns-in_err-first
returns-in_err-first c =
    let p = err_from_is_err_and c.from_residual-in_err-first.result c.from_residual-in_err-first.ensures.1 in
    let e = value_is _ _ _ refl c.in_ok-row.ensures in
    let k = rw e at c.in_err-first.ensures in
    rw (p.1, p.2) (then_value _ _ _ _ c.in_ok-row.ensures (unmade _ _ _ k))

pub returns-in_err-row-2 : goal.returns-in_err-row-2
returns-in_err-row-2 c =
    let p = err_from_is_err_and c.from_residual-in_err-row-2.result c.from_residual-in_err-row-2.ensures.1 in
    let e = value_is _ _ _ refl c.in_ok-row.ensures in
    let k = rw e at c.in_ok-first.ensures in
    let h = rw c.opposite.ensures at c.in_err-row-2.ensures in
    rw (p.1, p.2) (then_value _ _ _ _ c.in_ok-row.ensures (then_made _ _ _ _ k (no_value _ _ _ _ refl h)))

pub returns-in_err-second : goal.returns-in_err-second
returns-in_err-second c =
    let p = err_from_is_err_and c.from_residual-in_err-second.result c.from_residual-in_err-second.ensures.1 in
    let e = value_is _ _ _ refl c.in_ok-row.ensures in
    let k = rw e at c.in_ok-first.ensures in
    let h = rw c.opposite.ensures at c.in_ok-row-2.ensures in
    let d = value_is _ _ _ refl h in
    let m = rw d at c.in_err-second.ensures in
    rw (p.1, p.2) (then_value _ _ _ _ c.in_ok-row.ensures (then_made _ _ _ _ k (then_value _ _ _ _ h (unmade _ _ _ m))))

pub returns-in_err-add_goal : goal.returns-in_err-add_goal
returns-in_err-add_goal c =
    let p = err_from_is_err_and c.from_residual-in_err-add_goal.result c.from_residual-in_err-add_goal.ensures.1 in
    rw (p.1, p.2) (no_memory _)

pub returns : goal.returns
returns c =
    let e = value_is _ _ _ refl c.in_ok-row.ensures in
    let k = rw e at c.in_ok-first.ensures in
    let h = rw c.opposite.ensures at c.in_ok-row-2.ensures in
    let d = value_is _ _ _ refl h in
    let m = rw d at c.in_ok-second.ensures in
    then_value _ _ _ _ c.in_ok-row.ensures (then_made _ _ _ _ k (then_value _ _ _ _ h (then_made _ _ _ _ m (done_as _ _ (rw (c.in_ok-add_goal-2.ensures, c.in_ok-add_goal.ensures, c.new-goals.ensures.items) refl)))))
