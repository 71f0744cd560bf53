use Rattle.std.proofs.Common.{◌<◌, ◌≤◌, List, length, ◌∙◌, arith}
use Rattle.cap_prog.specs.Views.{action_view}
use Rattle.cap_goal_spec.specs.Candidates.{MadeRow}
use Rattle.cap_stab_states.specs.Adding.{bounds_among, action_bounds_among}
use Rattle.cap_stab_states.proofs.Bounds.{added-more, added-done, added-two}
use Rattle.cap_stab_states.proofs.finding.add_action_bounds.Goals as goal

pub loop-action-preserved : goal.loop-action-preserved
loop-action-preserved c =
    let a = c.args in
    let x = c.action-item.result in
    let h : c.loop-action.action-index < length a.actions.now = omega arith in
    let sources : List MadeRow = bounds_among a.count a.names.now a.later.now x.source in
    let targets : List MadeRow = bounds_among a.count a.names.now a.later.now x.target in
    added-more (action_bounds_among a.count a.names.now a.later.now) action_view _ _ _ a.actions.now c.loop-action.action-index x (rw c.in_ok-add_bounds_by.ensures at c.in_ok-add_bounds_by-2.ensures ∙ added-two _ sources targets) h c.action-item.is c.loop-action.invariant

pub returns : goal.returns
returns c =
    let a = c.args in
    let h : length a.actions.now ≤ c.loop-action.action-index = omega arith in
    added-done (action_bounds_among a.count a.names.now a.later.now) action_view _ _ a.actions.now c.loop-action.action-index h c.loop-action.invariant
