use Rattle.std.proofs.lemmas.Result.{err_from_is_err_and}
use Rattle.cap_rules_steps.proofs.Walking.{then_made, unmade, done_as, no_memory}
use Rattle.cap_take_give.proofs.splitting.split_between.Goals as goal

pub returns-in_err-first : goal.returns-in_err-first
returns-in_err-first c =
    let p = err_from_is_err_and c.from_residual.result c.from_residual.ensures.1 in
    rw (p.1, p.2) (unmade _ _ _ c.in_err-first.ensures)

pub returns-in_err-second : goal.returns-in_err-second
returns-in_err-second c =
    let p = err_from_is_err_and c.from_residual-in_err-second.result c.from_residual-in_err-second.ensures.1 in
    let h = rw c.opposite.ensures at c.in_err-second.ensures in
    rw (p.1, p.2) (then_made _ _ _ _ c.in_ok-first.ensures (unmade _ _ _ h))

pub returns-in_err-goals_after : goal.returns-in_err-goals_after
returns-in_err-goals_after c =
    let p = err_from_is_err_and c.from_residual-in_err-goals_after.result c.from_residual-in_err-goals_after.ensures.1 in
    rw (p.1, p.2) (no_memory _)

pub returns : goal.returns
returns c =
    let h = rw c.opposite.ensures at c.in_ok-second.ensures in
    then_made _ _ _ _ c.in_ok-first.ensures (then_made _ _ _ _ h (done_as _ _ c.in_ok-goals_after.ensures))
