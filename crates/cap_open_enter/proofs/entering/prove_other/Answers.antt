use Rattle.std.proofs.Common.{arith}
use Rattle.std.proofs.lemmas.Result.{err_from_is_err_and}
use Rattle.cap_rules_steps.proofs.Listing.{claims-first}
use Rattle.cap_rules_steps.proofs.Walking.{weaker, done}
use Rattle.cap_open_enter.proofs.Regions.{others, another, others_go}
use Rattle.cap_open_enter.proofs.Stepping.{claims-next, claims-stop, claims-end}
use Rattle.cap_open_enter.proofs.entering.prove_other.Goals as goal

pub loop-other-init : goal.loop-other-init
loop-other-init c = claims-first _ _

pub returns-in_err-prove_one_other : goal.returns-in_err-prove_one_other
returns-in_err-prove_one_other c =
    let a = c.args in
    let p = err_from_is_err_and c.from_residual.result c.from_residual.ensures.1 in
    rw (p.1, p.2) (claims-stop (others a.state.now a.fact.now) (another a.state.now a.fact.now) (others_go a.state.now a.fact.now) tt a.opened.now c.loop-other.other-index c.other-item.result _ _ _ _ _ (omega arith) c.other-item.is c.in_err-prove_one_other.ensures c.loop-other.invariant)

pub loop-other-preserved : goal.loop-other-preserved
loop-other-preserved c =
    let a = c.args in
    claims-next (others a.state.now a.fact.now) (another a.state.now a.fact.now) (others_go a.state.now a.fact.now) tt tt a.opened.now c.loop-other.other-index c.other-item.result _ _ _ _ (omega arith) c.other-item.is c.in_ok-prove_one_other.ensures c.loop-other.invariant

pub returns : goal.returns
returns c =
    let a = c.args in
    claims-end (others a.state.now a.fact.now) tt a.opened.now c.loop-other.other-index _ _ _ _ (omega arith) (weaker _ _ _ (done tt)) c.loop-other.invariant
