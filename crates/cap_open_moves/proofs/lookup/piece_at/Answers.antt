use Rattle.std.proofs.Common.{arith}
use Rattle.cap_open_moves.proofs.Members.{member-there, member-lacking}
use Rattle.cap_open_moves.proofs.lookup.piece_at.Goals as goal

pub returns-then-number-pieces : goal.returns-then-number-pieces
returns-then-number-pieces c = member-lacking c.args.pieces.now c.args.number (omega arith)

pub returns : goal.returns
returns c = member-there c.args.pieces.now c.args.number c.index-pieces-number.result (omega arith) c.index-pieces-number.is
