use Rattle.cap_closure_decide.proofs.Refuting.{failure-certifies}
use Rattle.cap_closure_decide.proofs.certifying.certified_by.Goals as goal

pub returns-in_ok-note_failure-in-Err : goal.returns-in_ok-note_failure-in-Err
returns-in_ok-note_failure-in-Err c = λ answer t.
    let k = rw c.in-Err.is at t in
    failure-certifies c.in-Err.error answer c.args.notes.now _ k c.in_ok-note_failure-in-Err.ensures
