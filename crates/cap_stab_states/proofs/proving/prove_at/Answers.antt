use Rattle.std.proofs.Common.{arith}
use Rattle.std.proofs.lemmas.Result.{err_from_is_err_and}
use Rattle.cap_rules.specs.Resting.{prove_at}
use Rattle.cap_stab_states.specs.Proving.{proved_one}
use Rattle.cap_stab_states.proofs.Claiming.{owes_starts, owes_more, owes_fails, owes_ends, at_walks}
use Rattle.cap_stab_states.proofs.proving.prove_at.Goals as goal

pub loop-candidate-init : goal.loop-candidate-init
loop-candidate-init c = owes_starts _ _

pub returns-in_err-prove_one : goal.returns-in_err-prove_one
returns-in_err-prove_one c =
    let a = c.args in
    let p = err_from_is_err_and c.from_residual.result c.from_residual.ensures.1 in
    rw (p.1, p.2) (owes_fails (prove_at a.state.now a.rows.now a.term.now) (proved_one a.state.now a.rows.now a.term.now) (at_walks a.state.now a.rows.now a.term.now) a.named.now c.loop-candidate.candidate-index c.candidate-item.result _ _ _ _ _ (omega arith) c.candidate-item.is c.in_err-prove_one.ensures c.loop-candidate.invariant)

pub loop-candidate-preserved : goal.loop-candidate-preserved
loop-candidate-preserved c =
    let a = c.args in
    owes_more (prove_at a.state.now a.rows.now a.term.now) (proved_one a.state.now a.rows.now a.term.now) (at_walks a.state.now a.rows.now a.term.now) a.named.now c.loop-candidate.candidate-index c.candidate-item.result _ _ _ _ (omega arith) c.candidate-item.is c.in_ok-prove_one.ensures c.loop-candidate.invariant

pub returns : goal.returns
returns c =
    let a = c.args in
    owes_ends (prove_at a.state.now a.rows.now a.term.now) (proved_one a.state.now a.rows.now a.term.now) (at_walks a.state.now a.rows.now a.term.now) a.named.now c.loop-candidate.candidate-index _ _ _ (omega arith) c.loop-candidate.invariant
