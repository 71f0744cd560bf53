use Rattle.std.proofs.Common.{arith}
use Rattle.std.proofs.lemmas.Result.{err_from_is_err_and}
use Rattle.cap_prog.specs.Views.{action_view}
use Rattle.cap_stab_states.proofs.Claiming.{closed_nothing, closed_alone, closed_fails}
use Rattle.cap_stab_states.proofs.proving.prove_closed.Goals as goal

pub returns-in-empty : goal.returns-in-empty
returns-in-empty c =
    let a = c.args in
    closed_nothing a.state.now a.named.now (action_view a.action.now) a.names.now _ a.ledger.now (omega arith)

pub returns-in-None : goal.returns-in-None
returns-in-None c =
    let a = c.args in
    rw c.in-None.is (closed_alone a.state.now a.named.now (action_view a.action.now) a.names.now a.ledger.now)

pub returns-in_err-target-in-Some : goal.returns-in_err-target-in-Some
returns-in_err-target-in-Some c =
    let a = c.args in
    let p = err_from_is_err_and c.from_residual.result c.from_residual.ensures.1 in
    rw (p.1, p.2, c.in-Some.is) (closed_fails a.state.now a.named.now (action_view a.action.now) a.names.now c.in-Some.rows.items a.ledger.now _ (omega arith) c.in_err-target-in-Some.ensures)
