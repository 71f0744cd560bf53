use Rattle.std.proofs.Common.{◌≡◌, take, map}
use Rattle.cap_take_guards.specs.Full.{moved}
use Rattle.cap_take_guards.proofs.sides.all_moved.Given as goal

abbrev pub invariant-loop-piece : goal.invariant-loop-piece
invariant-loop-piece l = l.further.items ≡ map (moved l.atoms) (take l.piece-index l.pieces)
