use Rattle.std.proofs.Common.{refl, ap, ◌∙◌}
use Rattle.cap_goal_spec.specs.States.{goals_of}
use Rattle.cap_take_items.specs.Views.{remaining_view, tasks_ahead}
use Rattle.std.proofs.lemmas.Result.{err_from_is_err_and}
use Rattle.cap_rules_steps.proofs.Walking.{made_claims, unmade_claims, claims_value, claims_no_value, weaker, done_as}
use Rattle.cap_take.proofs.comparing.fact.Goals as goal

pub returns-in_err-row : goal.returns-in_err-row
returns-in_err-row c =
    let p = err_from_is_err_and c.from_residual.result c.from_residual.ensures.1 in
    rw (p.1, p.2) (unmade_claims _ _ _ _ c.in_err-row.ensures)

pub returns-in_err-prove : goal.returns-in_err-prove
returns-in_err-prove c =
    let p = err_from_is_err_and c.from_residual-in_err-prove.result c.from_residual-in_err-prove.ensures.1 in
    let k = rw c.rows.ensures at c.in_err-prove.ensures in
    rw (p.1, p.2) (made_claims _ _ _ _ _ _ c.in_ok-row.ensures (claims_no_value _ _ _ _ _ _ refl k))

pub returns : goal.returns
returns c =
    let k = rw c.rows.ensures at c.in_ok-prove.ensures in
    made_claims _ _ _ _ _ _ c.in_ok-row.ensures (claims_value _ _ _ _ _ _ _ k (weaker _ _ _ (done_as _ _ (c.in_ok-goes.ensures ∙ ap (λ s. goals_of s (tasks_ahead (remaining_view c.args.rest.now))) c.in_ok-next.ensures))))
