use Rattle.std.proofs.Common.{ap, ◌∙◌}
use Rattle.std.proofs.lemmas.Result.{err_from_is_err_and}
use Rattle.cap_goal_spec.specs.States.{goals_of}
use Rattle.cap_rules_steps.proofs.Walking.{then_made, unmade, no_memory, done_as}
use Rattle.cap_take_create.proofs.created.begin.Goals as goal

pub returns-in_err-next : goal.returns-in_err-next
returns-in_err-next c =
    let p = err_from_is_err_and c.from_residual.result c.from_residual.ensures.1 in
    rw (p.1, p.2) (no_memory _)

pub returns-in_err-created : goal.returns-in_err-created
returns-in_err-created c =
    let p = err_from_is_err_and c.from_residual-in_err-created.result c.from_residual-in_err-created.ensures.1 in
    let n = rw c.in_ok-next.ensures at c.in_err-created.ensures.makes in
    rw (p.1, p.2) (unmade _ _ _ n)

pub returns-in_err-tasks : goal.returns-in_err-tasks
returns-in_err-tasks c =
    let p = err_from_is_err_and c.from_residual-in_err-tasks.result c.from_residual-in_err-tasks.ensures.1 in
    rw (p.1, p.2) (no_memory _)

pub returns-in_err-leaves : goal.returns-in_err-leaves
returns-in_err-leaves c =
    let p = err_from_is_err_and c.from_residual-in_err-leaves.result c.from_residual-in_err-leaves.ensures.1 in
    rw (p.1, p.2) (no_memory _)

pub returns : goal.returns
returns c =
    let n = rw c.in_ok-next.ensures at c.in_ok-created.ensures.makes in
    let t = rw c.in_ok-next.ensures at c.in_ok-created.ensures.fresh in
    let k = rw t at c.in_ok-tasks.ensures in
    let q = c.in_ok-leaves.ensures ∙ ap (λ ts. goals_of c.with_begun.new.state ts) k in
    then_made _ _ _ _ n (done_as _ _ q)
