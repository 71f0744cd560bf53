use Rattle.std.proofs.Common.{ap, ◌∙◌}
use Rattle.std.proofs.lemmas.Result.{err_from_is_err_and}
use Rattle.cap_goal_spec.specs.States.{goals_of}
use Rattle.cap_take_items.specs.Views.{remaining_view, tasks_ahead}
use Rattle.cap_rules_steps.proofs.Walking.{made_claims, unmade_claims, claims_then, claims_fail, no_memory_claims, weaker, done_as}
use Rattle.cap_take_facts.proofs.matched.region.Goals as goal

pub returns-in_err-fact : goal.returns-in_err-fact
returns-in_err-fact c =
    let p = err_from_is_err_and c.from_residual.result c.from_residual.ensures.1 in
    rw (p.1, p.2) (unmade_claims _ _ _ _ c.in_err-fact.ensures)

pub returns-in_err-check_fact : goal.returns-in_err-check_fact
returns-in_err-check_fact c =
    let p = err_from_is_err_and c.from_residual-in_err-check_fact.result c.from_residual-in_err-check_fact.ensures.1 in
    rw (p.1, p.2) (made_claims _ _ _ _ _ _ c.in_ok-fact.ensures (unmade_claims _ _ _ _ c.in_err-check_fact.ensures))

pub returns-in_err-names : goal.returns-in_err-names
returns-in_err-names c =
    let p = err_from_is_err_and c.from_residual-in_err-names.result c.from_residual-in_err-names.ensures.1 in
    rw (p.1, p.2) (made_claims _ _ _ _ _ _ c.in_ok-fact.ensures (made_claims _ _ _ _ _ _ c.in_ok-check_fact.ensures (claims_fail _ _ _ _ _ c.in_err-names.ensures)))

pub returns-in_err-next : goal.returns-in_err-next
returns-in_err-next c =
    let p = err_from_is_err_and c.from_residual-in_err-next.result c.from_residual-in_err-next.ensures.1 in
    rw (p.1, p.2) (no_memory_claims _ _ _)

pub returns-in_err-goes : goal.returns-in_err-goes
returns-in_err-goes c =
    let p = err_from_is_err_and c.from_residual-in_err-goes.result c.from_residual-in_err-goes.ensures.1 in
    rw (p.1, p.2) (no_memory_claims _ _ _)

pub returns : goal.returns
returns c =
    let e = c.in_ok-goes.ensures ∙ ap (λ s. goals_of s (tasks_ahead (remaining_view c.args.rest.now))) c.in_ok-next.ensures in
    made_claims _ _ _ _ _ _ c.in_ok-fact.ensures (made_claims _ _ _ _ _ _ c.in_ok-check_fact.ensures (claims_then _ _ _ _ _ _ _ c.in_ok-names.ensures (weaker _ _ _ (done_as _ _ e))))
