use Rattle.std.proofs.Common.{refl, List, ap, ◌∙◌}
use Rattle.std.specs.Prelude.{flat_map}
use Rattle.cap_goal.specs.Views.{tasks_view}
use Rattle.cap_rules_steps.specs.cap_goal_spec.States.{PlainFact, goals_of}
use Rattle.cap_rules_steps.specs.cap_rules.Closing.{closing}
use Rattle.cap_open_acts.specs.Views.{outcomes_view}
use Rattle.std.proofs.lemmas.Result.{err_from_is_err_and}
use Rattle.cap_rules_steps.proofs.Walking.{made_claims, unmade_claims, claims_then, claims_fail, claims_value, claims_no_value, narrow_claims, wide_claims, no_memory_claims, weaker, done_as}
use Rattle.cap_open_acts.proofs.acting.act.Goals as goal

pub returns-in_err-address : goal.returns-in_err-address
returns-in_err-address c =
    let p = err_from_is_err_and c.from_residual.result c.from_residual.ensures.1 in
    rw (p.1, p.2) (unmade_claims _ _ _ _ c.in_err-address.ensures)

pub returns-in_err-cell : goal.returns-in_err-cell
returns-in_err-cell c =
    let p = err_from_is_err_and c.from_residual-in_err-cell.result c.from_residual-in_err-cell.ensures.1 in
    let i = rw c.cells.ensures at c.in_err-cell.ensures in
    rw (p.1, p.2) (made_claims _ _ _ _ _ _ c.in_ok-address.ensures (unmade_claims _ _ _ _ i))

pub returns-in_err-place : goal.returns-in_err-place
returns-in_err-place c =
    let p = err_from_is_err_and c.from_residual-in_err-place.result c.from_residual-in_err-place.ensures.1 in
    let h = rw c.cells.ensures at c.in_ok-cell.ensures in
    rw (p.1, p.2) (made_claims _ _ _ _ _ _ c.in_ok-address.ensures (made_claims _ _ _ _ _ _ h (wide_claims _ _ _ _ c.in_err-place.ensures)))

pub returns-in_err-prove_equal : goal.returns-in_err-prove_equal
returns-in_err-prove_equal c =
    let p = err_from_is_err_and c.from_residual-in_err-prove_equal.result c.from_residual-in_err-prove_equal.ensures.1 in
    let h = rw c.cells.ensures at c.in_ok-cell.ensures in
    let m = rw c.in_ok-place.ensures.1 at c.in_err-prove_equal.ensures in
    rw (p.1, p.2) (made_claims _ _ _ _ _ _ c.in_ok-address.ensures (made_claims _ _ _ _ _ _ h (narrow_claims _ _ _ _ _ c.in_ok-place.ensures.0 (claims_no_value _ _ _ _ _ _ refl m))))

pub returns-in_err-next : goal.returns-in_err-next
returns-in_err-next c =
    let p = err_from_is_err_and c.from_residual-in_err-next.result c.from_residual-in_err-next.ensures.1 in
    let h = rw c.cells.ensures at c.in_ok-cell.ensures in
    let k = rw c.in_ok-place.ensures.1 at c.in_ok-prove_equal.ensures in
    rw (p.1, p.2) (made_claims _ _ _ _ _ _ c.in_ok-address.ensures (made_claims _ _ _ _ _ _ h (narrow_claims _ _ _ _ _ c.in_ok-place.ensures.0 (claims_value _ _ _ _ _ _ _ k (claims_fail _ _ _ _ _ c.in_err-next.ensures)))))

pub returns-in_err-outcomes : goal.returns-in_err-outcomes
returns-in_err-outcomes c =
    let p = err_from_is_err_and c.from_residual-in_err-outcomes.result c.from_residual-in_err-outcomes.ensures.1 in
    let h = rw c.cells.ensures at c.in_ok-cell.ensures in
    let k = rw c.in_ok-place.ensures.1 at c.in_ok-prove_equal.ensures in
    rw (p.1, p.2) (made_claims _ _ _ _ _ _ c.in_ok-address.ensures (made_claims _ _ _ _ _ _ h (narrow_claims _ _ _ _ _ c.in_ok-place.ensures.0 (claims_value _ _ _ _ _ _ _ k (claims_then _ _ _ _ _ _ _ c.in_ok-next.ensures (unmade_claims _ _ _ _ c.in_err-outcomes.ensures))))))

pub returns-in_err-goals_after : goal.returns-in_err-goals_after
returns-in_err-goals_after c =
    let p = err_from_is_err_and c.from_residual-in_err-goals_after.result c.from_residual-in_err-goals_after.ensures.1 in
    let h = rw c.cells.ensures at c.in_ok-cell.ensures in
    let k = rw c.in_ok-place.ensures.1 at c.in_ok-prove_equal.ensures in
    rw (p.1, p.2) (made_claims _ _ _ _ _ _ c.in_ok-address.ensures (made_claims _ _ _ _ _ _ h (narrow_claims _ _ _ _ _ c.in_ok-place.ensures.0 (claims_value _ _ _ _ _ _ _ k (claims_then _ _ _ _ _ _ _ c.in_ok-next.ensures (made_claims _ _ _ _ _ _ c.in_ok-outcomes.ensures (no_memory_claims _ _ _)))))))

pub returns : goal.returns
returns c =
    let h = rw c.cells.ensures at c.in_ok-cell.ensures in
    let k = rw c.in_ok-place.ensures.1 at c.in_ok-prove_equal.ensures in
    let e = c.in_ok-goals_after.ensures ∙ ap (λ (os : List PlainFact). flat_map (λ s. goals_of s (closing os c.args.at (tasks_view c.args.tasks.now))) (outcomes_view c.in_ok-outcomes.outcomes)) c.opened.ensures in
    made_claims _ _ _ _ _ _ c.in_ok-address.ensures (made_claims _ _ _ _ _ _ h (narrow_claims _ _ _ _ _ c.in_ok-place.ensures.0 (claims_value _ _ _ _ _ _ _ k (claims_then _ _ _ _ _ _ _ c.in_ok-next.ensures (made_claims _ _ _ _ _ _ c.in_ok-outcomes.ensures (weaker _ _ _ (done_as _ _ e)))))))
