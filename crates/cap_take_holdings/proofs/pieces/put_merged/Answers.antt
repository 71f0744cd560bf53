use Rattle.std.proofs.Common.{sym}
use Rattle.cap_take_holdings.proofs.Merging.{merged-there}
use Rattle.cap_take_holdings.proofs.pieces.put_merged.Goals as goal

pub returns-in_ok-put_piece-in-Some : goal.returns-in_ok-put_piece-in-Some
returns-in_ok-put_piece-in-Some c =
    let e = rw c.guards.ensures at c.in-Some.ensures in
    let m = rw c.in_ok-copy-in-Some.ensures at c.in_ok-put_piece-in-Some.ensures in
    merged-there c.args.state.now _ c.args.piece.now c.index-merged-place.result c.args.merged.now c.in-Some.place (sym e) c.requires c.index-merged-place.is m
