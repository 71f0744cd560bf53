use Rattle.std.proofs.Common.{◌≡◌, ◌∙◌, length, sym}
use Rattle.std.proofs.lemmas.List.{length-map}
use Rattle.cap_rules_steps.specs.Goals.{goals_view}
use Rattle.cap_goal.specs.Views.{certs_in}
use Rattle.cap_rules_steps.proofs.Judges.{answers-ok, answers-over, answers-refused, answers-error}
use Rattle.cap_rules_steps.proofs.judging.judged.Goals as goal
use Rattle.cap_rules_steps.proofs.judging.judged.Goals.{else-refuted-via-then-refuted+else-used, else-refuted-via-else-refuted}

pub returns-then-used : goal.returns-then-used
returns-then-used c = λ o h.
    let k = rw c.in-Ok.is at h in
    let n : length (certs_in c.args.certs.now) ≡ length c.args.ledger.now = length-map c.args.certs.now _ ∙ (c.if-used.true ∙ c.len.ensures) in
    answers-ok o (goals_view c.in-Ok.goals) c.args.ledger.now (certs_in c.args.certs.now) k c.if-refuted.ensures n

pub returns-else-refuted : goal.returns-else-refuted
returns-else-refuted c = λ o h.
    let k = rw c.in-Ok.is at h in
    elim c.else-refuted.branch [ else-refuted-via-then-refuted+else-used w ↦ answers-over o (goals_view c.in-Ok.goals) c.args.ledger.now (certs_in c.args.certs.now) k w.if-refuted.ensures (λ e. w.if-used.false (sym (length-map c.args.certs.now _) ∙ (e ∙ sym c.len.ensures))) | else-refuted-via-else-refuted w ↦ answers-refused o (goals_view c.in-Ok.goals) c.args.ledger.now (certs_in c.args.certs.now) k w.if-refuted.ensures ]

pub returns-in-Err : goal.returns-in-Err
returns-in-Err c = λ o h.
    let k = rw c.in-Err.is at h in
    rw c.judged_error.ensures (answers-error c.in-Err.error c.refutes_all-refuted.result o c.args.ledger.now (certs_in c.args.certs.now) k c.refutes_all-refuted.ensures)
