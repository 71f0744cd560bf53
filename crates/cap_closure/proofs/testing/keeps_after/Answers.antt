use Rattle.std.proofs.Common.{◌≡◌, [], ◌∷◌, subst, List, true, Some, rules}
use Rattle.std.specs.Prelude.{IfOk, Ok}
use Rattle.cap_lin.specs.Linear.{Linear}
use Rattle.cap_prog.specs.Views.{action_view}
use Rattle.cap_rules.specs.Resting.{prove_closed}
use Rattle.cap_offer_spec.specs.Deciding.{succeeds}
use Rattle.cap_closure_decide.specs.Noting.{Adds}
use Rattle.cap_closure.proofs.Requests.{asked-keeps, asked-vacuous, asked-fails}
use Rattle.cap_closure.proofs.testing.keeps_after.Goals as goal

pub returns-in-Ok-true-clause-keeps : goal.returns-in-Ok-true-clause-keeps
returns-in-Ok-true-clause-keeps c = λ k f known h.
    let a = c.args in
    let s = a.state.now in
    let x = action_view a.action.now in
    let names = a.asked.now.names.items in
    let rows = a.asked.now.rows.items in
    let r = a.row.now ∷ [] in
    let e : a.asked.now.others ≡ Ok true = search rules in
    asked-keeps k s f known x names rows a.asked.now.others r a.notes.now
    c.proves_at_target.new.notes c.proves_at_target.result e h
    (subst (λ (ns : List Linear). IfOk c.proves_at_target.result (λ yes. Adds a.notes.now
    c.proves_at_target.new.notes yes (succeeds (prove_closed s r x ns (Some rows)))))
    c.deref.ensures.value c.proves_at_target.ensures.proves)

pub returns-in-Ok-false-clause-keeps : goal.returns-in-Ok-false-clause-keeps
returns-in-Ok-false-clause-keeps c = λ k f known h.
    let a = c.args in
    asked-vacuous k a.state.now f known (action_view a.action.now) a.asked.now.names.items
    a.asked.now.rows.items a.asked.now.others (a.row.now ∷ []) a.notes.now
    (search rules) h

pub returns-in_ok-note_failure-in-Err-clause-keeps :
    goal.returns-in_ok-note_failure-in-Err-clause-keeps
returns-in_ok-note_failure-in-Err-clause-keeps c = λ k f known h.
    let a = c.args in
    asked-fails k a.state.now f known (action_view a.action.now) a.asked.now.names.items
    a.asked.now.rows.items a.asked.now.others (a.row.now ∷ []) a.notes.now
    c.note_failure.new.self c.in-Err.error c.in-Err.is h c.in_ok-note_failure-in-Err.ensures
