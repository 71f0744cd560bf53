use Rattle.std.proofs.Common.{[], ◌∷◌, length, sym, subst}
use Rattle.std.specs.Prelude.{IfOk}
use Rattle.cap_lin.specs.Linear.{replaced}
use Rattle.cap_lin.specs.declared.row.Row.{Row}
use Rattle.cap_rules.specs.Attempts.{prove}
use Rattle.cap_rules.specs.Resting.{prove_at}
use Rattle.cap_offer_spec.specs.Deciding.{succeeds}
use Rattle.cap_closure_decide.specs.Noting.{Adds}
use Rattle.cap_closure_decide.proofs.Refuting.{adds-same, failure-fails}
use Rattle.cap_closure.proofs.Attempts.{at-succeeds, at-fails}
use Rattle.cap_closure.proofs.testing.proves_at.Goals as goal

pub returns-in-Ok-clause-proves : goal.returns-in-Ok-clause-proves
returns-in-Ok-clause-proves c =
    let a = c.args in
    let s = a.state.now in
    let rows = a.rows.now.items in
    let h = rw c.sorts.ensures at c.in-Ok.ensures in
    let q : Row = record (a.row.now) { term = replaced (length s.sorts) a.term.now a.row.now.term } in
    let k = subst (λ (r : Row). IfOk c.proves.result (λ yes. Adds a.notes.now c.proves.new.notes yes (succeeds (prove rows r)))) h.1 c.proves.ensures.proves in
    adds-same c.proves.result a.notes.now c.proves.new.notes (succeeds (prove rows q)) (succeeds (prove_at s rows a.term.now (a.row.now ∷ []))) (sym (at-succeeds s rows a.term.now a.row.now a.notes.now h.0)) k

pub returns-in_ok-note_failure-in-Err-clause-proves :
    goal.returns-in_ok-note_failure-in-Err-clause-proves
returns-in_ok-note_failure-in-Err-clause-proves c =
    let a = c.args in
    let h = rw c.sorts.ensures at c.in-Err.ensures in
    let k = rw c.from.ensures at c.in_ok-note_failure-in-Err.ensures in
    failure-fails _ (prove_at a.state.now a.rows.now.items a.term.now (a.row.now ∷ [])) a.notes.now _ (at-fails a.state.now a.rows.now.items a.term.now a.row.now c.in-Err.error h) k
