use Rattle.std.proofs.Common.{◌<◌, ◌≤◌, length, arith}
use Rattle.cap_prog.specs.Views.{function_view}
use Rattle.cap_goal_spec.specs.Roots.{loop_roots}
use Rattle.cap_goal_roots.specs.Units.{LoopIsNarrow}
use Rattle.cap_goal_roots.specs.Views.{loop_view}
use Rattle.cap_goal_roots.proofs.Walks.{each_at, flat_more, flat_done}
use Rattle.cap_goal_roots.proofs.function.push_all_loop_roots.Goals as goal

pub push_loop_roots-requires : goal.push_loop_roots-requires
push_loop_roots-requires c =
    let h : c.loop-at.at-index < length c.args.loops.now = omega arith in
    each_at (LoopIsNarrow (function_view c.args.function.now)) loop_view c.args.loops.now c.loop-at.at-index c.at-item.result h c.at-item.is c.requires

pub loop-at-preserved : goal.loop-at-preserved
loop-at-preserved c =
    let h : c.loop-at.at-index < length c.args.loops.now = omega arith in
    flat_more (loop_roots (function_view c.args.function.now) c.args.number) loop_view _ _ _ c.args.loops.now c.loop-at.at-index c.at-item.result c.in_ok-push_loop_roots.ensures h c.at-item.is c.loop-at.invariant

pub returns : goal.returns
returns c =
    let h : length c.args.loops.now ≤ c.loop-at.at-index = omega arith in
    flat_done (loop_roots (function_view c.args.function.now) c.args.number) loop_view _ _ c.args.loops.now c.loop-at.at-index h c.loop-at.invariant
