use Rattle.std.proofs.Common.{◌≡◌, drop}
use Rattle.cap_prog.specs.Views.{program_view}
use Rattle.cap_owners_spec.specs.Filling.{with_pieces}
use Rattle.cap_owners_parts.proofs.held.put_pieces.Given as goal

abbrev pub invariant-loop-piece : goal.invariant-loop-piece
invariant-loop-piece l = with_pieces (program_view l.program) l.values l.part (drop l.piece-index l.pieces) ≡ with_pieces (program_view l.program) l.values l.fn.part l.pieces
