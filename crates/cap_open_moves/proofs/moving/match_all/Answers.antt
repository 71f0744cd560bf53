use Rattle.std.proofs.Common.{arith}
use Rattle.std.proofs.lemmas.Result.{err_from_is_err_and}
use Rattle.cap_prog.specs.Views.{action_view}
use Rattle.cap_open_moves.proofs.Matches.{all-next, all-fails, all-end}
use Rattle.cap_open_moves.proofs.moving.match_all.Goals as goal

pub returns-in_err-match_part : goal.returns-in_err-match_part
returns-in_err-match_part c =
    let p = err_from_is_err_and c.from_residual.result c.from_residual.ensures.1 in
    rw (p.1, p.2) (all-fails c.args.state.now c.args.fact.now c.args.new.now (action_view c.args.action.now) _ c.args.parts.now c.loop-part.part-index c.part-item.result _ _ _ _ _ (omega arith) c.part-item.is c.in_err-match_part.ensures c.loop-part.invariant)

pub loop-part-preserved : goal.loop-part-preserved
loop-part-preserved c = all-next c.args.state.now c.args.fact.now c.args.new.now (action_view c.args.action.now) _ _ c.args.parts.now c.loop-part.part-index c.part-item.result _ _ _ _ (omega arith) c.part-item.is c.in_ok-match_part.ensures c.loop-part.invariant

pub returns : goal.returns
returns c = all-end c.args.state.now c.args.fact.now c.args.new.now (action_view c.args.action.now) _ c.args.parts.now c.loop-part.part-index _ _ _ (omega arith) c.loop-part.invariant
