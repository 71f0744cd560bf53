use Rattle.std.proofs.Common.{arith}
use Rattle.std.proofs.lemmas.Result.{err_from_is_err_and}
use Rattle.cap_prog.specs.Views.{program_view}
use Rattle.cap_rules_steps.specs.cap_rules.Making.{with_piece, with_pieces}
use Rattle.cap_rules_steps.proofs.Walking.{goes_on, fails_at, ends, done}
use Rattle.cap_take_holdings.proofs.Merging.{pieces_go}
use Rattle.cap_take_holdings.proofs.pieces.with_pieces.Goals as goal

pub returns-in_err-with_piece : goal.returns-in_err-with_piece
returns-in_err-with_piece c =
    let p = err_from_is_err_and c.from_residual.result c.from_residual.ensures.1 in
    let q = program_view c.args.program.now in
    rw (p.1, p.2) (fails_at (with_pieces q) (with_piece q) (pieces_go q) c.loop-piece.state c.args.pieces.now c.loop-piece.piece-index c.piece-item.result _ _ (omega arith) c.piece-item.is c.in_err-with_piece.ensures c.loop-piece.invariant)

pub loop-piece-preserved : goal.loop-piece-preserved
loop-piece-preserved c =
    let q = program_view c.args.program.now in
    goes_on (with_pieces q) (with_piece q) (pieces_go q) c.loop-piece.state c.with_piece.new.state c.args.pieces.now c.loop-piece.piece-index c.piece-item.result _ (omega arith) c.piece-item.is c.in_ok-with_piece.ensures c.loop-piece.invariant

pub returns : goal.returns
returns c =
    let q = program_view c.args.program.now in
    ends (with_pieces q) c.loop-piece.state c.args.pieces.now c.loop-piece.piece-index _ _ (omega arith) (done _) c.loop-piece.invariant
