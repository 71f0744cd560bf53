use Rattle.std.proofs.Common.{◌≡◌, ◌++◌, take}
use Rattle.cap_open_enter.proofs.entering.add_before.Given as goal

abbrev pub invariant-loop-piece : goal.invariant-loop-piece
invariant-loop-piece l = l.state ≡ record l.fn.state { before = l.fn.state.before ++ take l.piece-index l.guards }
