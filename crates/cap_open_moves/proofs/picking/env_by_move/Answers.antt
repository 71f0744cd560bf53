use Rattle.cap_prog.specs.Views.{region_view, case_view}
use Rattle.cap_rules.specs.Closing.{move_target}
use Rattle.cap_rules_steps.proofs.Walking.{then_made, done_as}
use Rattle.cap_open_moves.proofs.Picks.{case-bound, case-wanting}
use Rattle.cap_open_moves.proofs.picking.env_by_move.Goals as goal

pub returns-then-binds_all : goal.returns-then-binds_all
returns-then-binds_all c =
    let k = region_view c.args.region.now in
    case-bound c.binds_all.result k (case_view c.args.case.now) c.args.fact.now (move_target k c.args.fact.now c.args.action) _ c.binds_all.ensures c.if-binds_all.true c.in_ok-case_env.ensures

pub returns : goal.returns
returns c =
    let k = region_view c.args.region.now in
    case-wanting c.binds_all.result k (case_view c.args.case.now) c.args.fact.now (move_target k c.args.fact.now c.args.action) _ c.binds_all.ensures c.if-binds_all.false (then_made _ _ _ _ c.in_ok-target.ensures (done_as _ _ c.in_ok-case_env-2.ensures))
