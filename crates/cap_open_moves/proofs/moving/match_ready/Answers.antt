use Rattle.std.proofs.Common.{arith}
use Rattle.std.proofs.lemmas.Result.{err_from_is_err_and}
use Rattle.cap_prog.specs.Views.{action_view}
use Rattle.cap_open_moves.proofs.Matches.{part-waits, part-matched, part-fails, parts-end, one-part}
use Rattle.cap_open_moves.proofs.moving.match_ready.Goals as goal
use Rattle.cap_open_moves.proofs.moving.match_ready.Goals.{then-waits+in_ok-push, else-waits+in_ok-match_part}

pub returns-in_err-match_part : goal.returns-in_err-match_part
returns-in_err-match_part c =
    let p = err_from_is_err_and c.from_residual-in_err-match_part.result c.from_residual-in_err-match_part.ensures.1 in
    rw (p.1, p.2) (part-fails c.args.state.now c.args.fact.now c.args.new.now (action_view c.args.action.now) _ _ c.args.parts.now c.loop-part.part-index c.part-item.result c.waits.result _ _ _ _ _ (omega arith) c.part-item.is c.waits.ensures c.if-waits.false c.in_err-match_part.ensures c.loop-part.invariant)

pub loop-part-preserved : goal.loop-part-preserved
loop-part-preserved c = elim c.if-waits.branch [
  | then-waits+in_ok-push w ↦ rw (w.ledger-is, w.env-is, w.waiting-is) (part-waits c.args.state.now c.args.fact.now c.args.new.now (action_view c.args.action.now) _ _ _ c.args.parts.now c.loop-part.part-index c.part-item.result c.waits.result _ _ _ (omega arith) c.part-item.is c.waits.ensures w.if-waits.true (one-part _ _ _ w.in_ok-push.ensures.items) c.loop-part.invariant)
  | else-waits+in_ok-match_part w ↦ rw (w.ledger-is, w.env-is, w.waiting-is) (part-matched c.args.state.now c.args.fact.now c.args.new.now (action_view c.args.action.now) _ _ _ c.args.parts.now c.loop-part.part-index c.part-item.result c.waits.result _ _ _ _ (omega arith) c.part-item.is c.waits.ensures w.if-waits.false w.in_ok-match_part.ensures c.loop-part.invariant)
]

pub returns : goal.returns
returns c = parts-end c.args.state.now c.args.fact.now c.args.new.now (action_view c.args.action.now) _ _ c.args.parts.now c.loop-part.part-index _ _ _ (omega arith) c.loop-part.invariant
