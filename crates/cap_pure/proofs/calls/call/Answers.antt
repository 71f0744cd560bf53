use Rattle.std.proofs.Common.{refl}
use Rattle.std.proofs.lemmas.Result.{err_from_is_err_and}
use Rattle.cap_rules_steps.proofs.Walking.{then_made, unmade, done_as, no_memory}
use Rattle.cap_pure.proofs.calls.call.Goals as goal

pub returns-in_err-function : goal.returns-in_err-function
returns-in_err-function c =
    let p = err_from_is_err_and c.from_residual.result c.from_residual.ensures.1 in
    rw (p.1, p.2) (unmade _ _ _ c.in_err-function.ensures)

pub returns-in_err-next : goal.returns-in_err-next
returns-in_err-next c =
    let p = err_from_is_err_and c.from_residual-in_err-next.result c.from_residual-in_err-next.ensures.1 in
    rw (p.1, p.2) (no_memory _)

pub returns-in_err-env : goal.returns-in_err-env
returns-in_err-env c =
    let p = err_from_is_err_and c.from_residual-in_err-env.result c.from_residual-in_err-env.ensures.1 in
    let k = rw c.in_ok-next.ensures at c.in_err-env.ensures.makes in
    rw (p.1, p.2) (then_made _ _ _ _ c.in_ok-function.ensures (unmade _ _ _ k))

pub returns-in_err-tasks : goal.returns-in_err-tasks
returns-in_err-tasks c =
    let p = err_from_is_err_and c.from_residual-in_err-tasks.result c.from_residual-in_err-tasks.ensures.1 in
    rw (p.1, p.2) (no_memory _)

pub returns-in_err-leaves : goal.returns-in_err-leaves
returns-in_err-leaves c =
    let p = err_from_is_err_and c.from_residual-in_err-leaves.result c.from_residual-in_err-leaves.ensures.1 in
    rw (p.1, p.2) (no_memory _)

pub returns : goal.returns
returns c =
    let k = rw c.in_ok-next.ensures at c.in_ok-env.ensures.makes in
    let e = rw c.in_ok-next.ensures at c.in_ok-env.ensures.place in
    then_made _ _ _ _ c.in_ok-function.ensures (then_made _ _ _ _ k (done_as _ _ (rw (c.in_ok-leaves.ensures, c.in_ok-tasks.ensures, e) refl)))
