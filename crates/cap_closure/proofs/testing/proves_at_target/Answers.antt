use Rattle.std.proofs.Common.{[], ◌∷◌, get_or, subst, sym, Some}
use Rattle.std.specs.Prelude.{IfOk}
use Rattle.cap_lin.specs.Linear.{Linear}
use Rattle.cap_prog.specs.Views.{action_view}
use Rattle.cap_goal_spec.specs.Terms.{term_over, term_over_steps}
use Rattle.cap_goal_spec.specs.Environments.{zero_value}
use Rattle.cap_rules.specs.Resting.{value_over, prove_at, prove_closed}
use Rattle.cap_offer_spec.specs.Deciding.{succeeds}
use Rattle.cap_rules_steps.proofs.Walking.{all_narrow}
use Rattle.cap_closure_decide.specs.Noting.{Adds}
use Rattle.cap_closure_decide.proofs.Refuting.{adds-same, failure-fails}
use Rattle.cap_closure.proofs.Attempts.{made-succeeds, wide-fails}
use Rattle.cap_closure.proofs.testing.proves_at_target.Goals as goal

pub returns-in-Ok-clause-proves : goal.returns-in-Ok-clause-proves
returns-in-Ok-clause-proves c =
    let a = c.args in
    let s = a.state.now in
    let rows = a.rows.now.items in
    let x = (action_view a.action.now).target in
    let t = term_over (λ i. get_or a.names.now i zero_value) x in
    let steps = term_over_steps (λ i. get_or a.names.now i zero_value) x in
    let h = c.in-Ok.ensures in
    let k = subst (λ (u : Linear). IfOk c.proves_at.result (λ yes. Adds a.notes.now c.proves_at.new.notes yes (succeeds (prove_at s rows u (a.row.now ∷ []))))) h.1 c.proves_at.ensures.proves in
    adds-same c.proves_at.result a.notes.now c.proves_at.new.notes (succeeds (prove_at s rows t (a.row.now ∷ []))) (succeeds (prove_closed s (a.row.now ∷ []) (action_view a.action.now) a.names.now (Some rows)))
    (sym (made-succeeds (value_over a.names.now x) (λ u. prove_at s rows u (a.row.now ∷ [])) t a.notes.now (all_narrow t steps h.0))) k

pub returns-in_ok-note_failure-in-Err-clause-proves :
    goal.returns-in_ok-note_failure-in-Err-clause-proves
returns-in_ok-note_failure-in-Err-clause-proves c =
    let a = c.args in
    let s = a.state.now in
    let rows = a.rows.now.items in
    let x = (action_view a.action.now).target in
    let t = term_over (λ i. get_or a.names.now i zero_value) x in
    let steps = term_over_steps (λ i. get_or a.names.now i zero_value) x in
    let k = rw c.from.ensures at c.in_ok-note_failure-in-Err.ensures in
    failure-fails _ (prove_closed s (a.row.now ∷ []) (action_view a.action.now) a.names.now (Some rows)) a.notes.now _ (wide-fails c.in-Err.error steps (prove_at s rows t (a.row.now ∷ [])) c.in-Err.ensures) k
