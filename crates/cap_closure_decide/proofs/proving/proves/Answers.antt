use Rattle.std.proofs.Common.{sym, map}
use Rattle.cap_lin.specs.Rows.{negations}
use Rattle.cap_rules.specs.Attempts.{prove}
use Rattle.cap_offer_spec.specs.Deciding.{succeeds}
use Rattle.cap_rules_steps.specs.Places.{ended_by}
use Rattle.cap_closure_decide.specs.Noting.{refuted_all}
use Rattle.cap_closure_decide.proofs.Refuting.{proves-narrow, proves-told, adds-same, failure-fails}
use Rattle.cap_closure_decide.proofs.proving.proves.Goals as goal

pub returns-in-Ok-clause-proves : goal.returns-in-Ok-clause-proves
returns-in-Ok-clause-proves c =
    let rows = c.args.rows.now.items in
    let row = c.args.row.now in
    let h = rw c.in-Ok.ensures.exact.1 at c.refuted_with_each.ensures.refuted in
    adds-same c.refuted_with_each.result c.args.notes.now _ (refuted_all (map (ended_by rows) (negations row))) (succeeds (prove rows row)) (sym (proves-narrow rows row c.args.notes.now c.in-Ok.ensures.exact.0)) h

pub returns-in_ok-note_failure-in-Err-clause-proves : goal.returns-in_ok-note_failure-in-Err-clause-proves
returns-in_ok-note_failure-in-Err-clause-proves c =
    let k = rw c.from.ensures at c.in_ok-note_failure-in-Err.ensures in
    failure-fails _ (prove c.args.rows.now.items c.args.row.now) c.args.notes.now _ (proves-told c.in-Err.error c.args.rows.now.items c.args.row.now c.in-Err.ensures.exact) k
