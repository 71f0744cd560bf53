use Rattle.cap_rules_steps.proofs.Judges.{told-ok, told-error}
use Rattle.cap_closure_decide.proofs.certifying.proofs_told.Goals as goal

pub returns-in-Ok : goal.returns-in-Ok
returns-in-Ok c = λ o h.
    let k = rw c.in-Ok.is at h in
    rw c.into_lists.ensures (told-ok o tt c.args.ledger k)

pub returns-in-Err : goal.returns-in-Err
returns-in-Err c = λ o h.
    let k = rw c.in-Err.is at h in
    told-error c.in-Err.error o c.args.ledger k
