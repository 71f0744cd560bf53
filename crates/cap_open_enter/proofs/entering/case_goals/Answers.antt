use Rattle.std.proofs.Common.{arith}
use Rattle.std.proofs.lemmas.Result.{err_from_is_err_and}
use Rattle.cap_goal.specs.Views.{tasks_view}
use Rattle.cap_rules_steps.proofs.Walking.{done, no_memory}
use Rattle.cap_open_enter.proofs.Cases.{cases_of, one_case, given, cases_chunk, none-yet}
use Rattle.cap_open_enter.proofs.Stepping.{chunks-next, chunks-stop, chunks-end}
use Rattle.cap_open_enter.proofs.entering.case_goals.Goals as goal

pub loop-case-init : goal.loop-case-init
loop-case-init c = none-yet _ _ c.new-goals.ensures.items

pub returns-in_err-next : goal.returns-in_err-next
returns-in_err-next c =
    let a = c.args in
    let s = a.state.now in
    let f = a.fact.now in
    let ts = tasks_view a.tasks.now in
    let p = err_from_is_err_and c.from_residual.result c.from_residual.ensures.1 in
    rw (p.1, p.2) (chunks-stop (cases_of s f a.at ts) (one_case s f) (given s a.at ts) (cases_chunk s f a.at ts) a.cases.now c.loop-case.case-index c.case-item.result _ _ _ (omega arith) c.case-item.is c.in_err-next.ensures c.loop-case.invariant)

pub returns-in_err-given : goal.returns-in_err-given
returns-in_err-given c =
    let p = err_from_is_err_and c.from_residual-in_err-given.result c.from_residual-in_err-given.ensures.1 in
    rw (p.1, p.2) (no_memory _)

pub returns-in_err-add_goal : goal.returns-in_err-add_goal
returns-in_err-add_goal c =
    let p = err_from_is_err_and c.from_residual-in_err-add_goal.result c.from_residual-in_err-add_goal.ensures.1 in
    rw (p.1, p.2) (no_memory _)

pub loop-case-preserved : goal.loop-case-preserved
loop-case-preserved c =
    let a = c.args in
    let s = a.state.now in
    let f = a.fact.now in
    let ts = tasks_view a.tasks.now in
    let q = rw (c.in_ok-given.ensures, c.envs.ensures) at c.in_ok-add_goal.ensures in
    chunks-next (cases_of s f a.at ts) (one_case s f) (given s a.at ts) (cases_chunk s f a.at ts) a.cases.now c.loop-case.case-index c.case-item.result c.in_ok-next.next _ _ _ (omega arith) c.case-item.is c.in_ok-next.ensures q c.loop-case.invariant

pub returns : goal.returns
returns c =
    let a = c.args in
    let ts = tasks_view a.tasks.now in
    chunks-end (cases_of a.state.now a.fact.now a.at ts) a.cases.now c.loop-case.case-index _ _ (omega arith) (done _) c.loop-case.invariant
