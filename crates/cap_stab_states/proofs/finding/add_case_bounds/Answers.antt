use Rattle.std.proofs.Common.{◌<◌, ◌≤◌, length, arith}
use Rattle.cap_prog.specs.Views.{case_view}
use Rattle.cap_stab_states.specs.Adding.{bounds_among}
use Rattle.cap_stab_states.proofs.Bounds.{added-more, added-done}
use Rattle.cap_stab_states.proofs.finding.add_case_bounds.Goals as goal

pub loop-case-preserved : goal.loop-case-preserved
loop-case-preserved c =
    let a = c.args in
    let h : c.loop-case.case-index < length a.cases.now = omega arith in
    added-more (λ x. bounds_among a.count a.names.now a.later.now x.state) case_view _ _ _ a.cases.now c.loop-case.case-index c.case-item.result c.in_ok-add_bounds_by.ensures h c.case-item.is c.loop-case.invariant

pub returns : goal.returns
returns c =
    let a = c.args in
    let h : length a.cases.now ≤ c.loop-case.case-index = omega arith in
    added-done (λ x. bounds_among a.count a.names.now a.later.now x.state) case_view _ _ a.cases.now c.loop-case.case-index h c.loop-case.invariant
