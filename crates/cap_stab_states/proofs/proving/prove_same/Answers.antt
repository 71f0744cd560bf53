use Rattle.std.proofs.Common.{◌≡◌, ap}
use Rattle.std.proofs.lemmas.Result.{err_from_is_err_and}
use Rattle.cap_prog.specs.Views.{action_view}
use Rattle.cap_goal_spec.specs.States.{PlainFact}
use Rattle.cap_stab_states.proofs.Claiming.{same_alone, same_fails, same_made}
use Rattle.cap_stab_states.proofs.proving.prove_same.Goals as goal

pub returns-in-None : goal.returns-in-None
returns-in-None c =
    let a = c.args in
    rw c.in-None.is (same_alone a.fact.now (action_view a.action.now) a.names.now a.ledger.now)

pub returns-in_err-target-in-Some : goal.returns-in_err-target-in-Some
returns-in_err-target-in-Some c =
    let a = c.args in
    let p = err_from_is_err_and c.from_residual.result c.from_residual.ensures.1 in
    rw (p.1, p.2, c.in-Some.is) (same_fails a.fact.now (action_view a.action.now) a.names.now c.in-Some.rows.items a.ledger.now _ c.in_err-target-in-Some.ensures)

pub returns-in_ok-target-in-Some : goal.returns-in_ok-target-in-Some
returns-in_ok-target-in-Some c =
    let a = c.args in
    let t : c.fact.inside.state ≡ a.fact.now.state = ap (λ (f : PlainFact). f.state) c.fact.view_is in
    let h = rw (c.deref.ensures.value, t) at c.prove_that.ensures in
    rw c.in-Some.is (same_made a.fact.now (action_view a.action.now) a.names.now c.in-Some.rows.items c.in_ok-target-in-Some.target _ _ _ c.in_ok-target-in-Some.ensures.0 c.in_ok-target-in-Some.ensures.1 h)
