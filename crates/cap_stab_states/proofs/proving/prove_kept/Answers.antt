use Rattle.std.proofs.Common.{◌<◌, ◌≤◌, List, length, map, slice_index_or, ap, ◌∙◌, arith}
use Rattle.std.proofs.lemmas.Result.{err_from_is_err_and}
use Rattle.cap_prog.specs.declared.region.Action.{Action}
use Rattle.cap_prog.specs.Views.{action_view, region_view}
use Rattle.cap_rules.specs.Attempts.{Attempt}
use Rattle.cap_rules.specs.Resting.{prove_kept}
use Rattle.cap_stab_states.specs.Proving.{kept_for}
use Rattle.cap_stab_states.proofs.Claiming.{owes_more, owes_fails, owes_ends, mapped_walks, kept_walks}
use Rattle.cap_stab_states.proofs.proving.prove_kept.Goals as goal

pub returns-in_err-prove_kept_for : goal.returns-in_err-prove_kept_for
returns-in_err-prove_kept_for c =
    let a = c.args in
    let k = region_view a.region.now in
    let xs = a.region.now.actions.items in
    let i = c.loop-action.action-index in
    let h : i < length xs = omega (arith, ap length c.deref-action-items.ensures.value) in
    let at = c.action-item.is ∙ ap (λ l. slice_index_or l i c.action-item.result) c.deref-action-items.ensures.value in
    let F : List Action → Attempt (Unit {0}) = λ l. prove_kept k a.state.now a.fact.now a.same.now (map action_view l) in
    let step : Action → Attempt (Unit {0}) = λ x. kept_for k a.state.now a.fact.now a.same.now (action_view x) in
    let p = err_from_is_err_and c.from_residual.result c.from_residual.ensures.1 in
    rw (p.1, p.2) (owes_fails F step (mapped_walks _ _ action_view (kept_walks k a.state.now a.fact.now a.same.now)) xs i c.action-item.result _ _ _ _ _ h at c.in_err-prove_kept_for.ensures c.loop-action.invariant)

pub loop-action-preserved : goal.loop-action-preserved
loop-action-preserved c =
    let a = c.args in
    let k = region_view a.region.now in
    let xs = a.region.now.actions.items in
    let i = c.loop-action.action-index in
    let h : i < length xs = omega (arith, ap length c.deref-action-items.ensures.value) in
    let at = c.action-item.is ∙ ap (λ l. slice_index_or l i c.action-item.result) c.deref-action-items.ensures.value in
    let F : List Action → Attempt (Unit {0}) = λ l. prove_kept k a.state.now a.fact.now a.same.now (map action_view l) in
    let step : Action → Attempt (Unit {0}) = λ x. kept_for k a.state.now a.fact.now a.same.now (action_view x) in
    owes_more F step (mapped_walks _ _ action_view (kept_walks k a.state.now a.fact.now a.same.now)) xs i c.action-item.result _ _ _ _ h at c.in_ok-prove_kept_for.ensures c.loop-action.invariant

pub returns : goal.returns
returns c =
    let a = c.args in
    let k = region_view a.region.now in
    let xs = a.region.now.actions.items in
    let i = c.loop-action.action-index in
    let h : length xs ≤ i = omega (arith, ap length c.deref-action-items.ensures.value) in
    let F : List Action → Attempt (Unit {0}) = λ l. prove_kept k a.state.now a.fact.now a.same.now (map action_view l) in
    let step : Action → Attempt (Unit {0}) = λ x. kept_for k a.state.now a.fact.now a.same.now (action_view x) in
    owes_ends F step (mapped_walks _ _ action_view (kept_walks k a.state.now a.fact.now a.same.now)) xs i _ _ _ h c.loop-action.invariant
