use Rattle.std.proofs.lemmas.Result.{err_from_is_err_and}
use Rattle.cap_prog.specs.Views.{program_view}
use Rattle.cap_take_holdings.proofs.Merging.{piece-lacks, piece-wide, piece-unmerged, piece-added}
use Rattle.cap_take_holdings.proofs.pieces.with_piece.Goals as goal

pub returns-in_err-region : goal.returns-in_err-region
returns-in_err-region c =
    let p = err_from_is_err_and c.from_residual.result c.from_residual.ensures.1 in
    rw (p.1, p.2) (piece-lacks (program_view c.args.program.now) c.args.state.now c.args.piece.now _ c.in_err-region.ensures)

pub returns-in_err-merged : goal.returns-in_err-merged
returns-in_err-merged c =
    let p = err_from_is_err_and c.from_residual-in_err-merged.result c.from_residual-in_err-merged.ensures.1 in
    let x = rw c.guards.ensures at c.in_err-merged.ensures.exact in
    rw (p.1, p.2) (piece-wide (program_view c.args.program.now) c.args.state.now c.args.piece.now _ _ c.in_ok-region.ensures x)

pub returns-in_err-put_merged : goal.returns-in_err-put_merged
returns-in_err-put_merged c =
    let p = err_from_is_err_and c.from_residual-in_err-put_merged.result c.from_residual-in_err-put_merged.ensures.1 in
    let n = rw c.guards.ensures at c.in_ok-merged.ensures.exact.0 in
    rw (p.1, p.2) (piece-unmerged (program_view c.args.program.now) c.args.state.now c.args.piece.now _ _ c.in_ok-region.ensures n c.in_err-put_merged.ensures)

pub returns : goal.returns
returns c =
    let n = rw c.guards.ensures at c.in_ok-merged.ensures.exact.0 in
    let rows = rw c.guards.ensures at c.in_ok-merged.ensures.exact.1.1 in
    let k = rw (c.deref-2.ensures.value, rows) at c.with_rows.ensures in
    piece-added (program_view c.args.program.now) c.args.state.now _ c.args.piece.now _ _ c.in_ok-region.ensures n c.in_ok-put_merged.ensures k
