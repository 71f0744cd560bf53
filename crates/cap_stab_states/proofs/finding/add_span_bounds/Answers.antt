use Rattle.std.proofs.Common.{◌<◌, ◌≤◌, length, arith}
use Rattle.cap_goal_spec.specs.Candidates.{piece_bounds}
use Rattle.cap_stab_states.proofs.Bounds.{each-more, each-done}
use Rattle.cap_stab_states.proofs.finding.add_span_bounds.Goals as goal

pub loop-piece-preserved : goal.loop-piece-preserved
loop-piece-preserved c =
    let a = c.args in
    let h : c.loop-piece.piece-index < length a.pieces.now = omega arith in
    each-more (piece_bounds a.fact.now a.later.now) _ _ _ a.pieces.now c.loop-piece.piece-index c.piece-item.result c.in_ok-add_piece_bounds.ensures h c.piece-item.is c.loop-piece.invariant

pub returns : goal.returns
returns c =
    let a = c.args in
    let h : length a.pieces.now ≤ c.loop-piece.piece-index = omega arith in
    each-done (piece_bounds a.fact.now a.later.now) _ _ a.pieces.now c.loop-piece.piece-index h c.loop-piece.invariant
