use Rattle.std.proofs.Common.{◌≡◌, [], length}
use Rattle.cap_open_enter.proofs.entering.clear_before.Given as goal

abbrev pub invariant-loop-state : goal.invariant-loop-state
invariant-loop-state l = record l.state { before = [] } ≡ record l.fn.state { before = [] }

abbrev pub decreases-loop-state : goal.decreases-loop-state
decreases-loop-state l = length l.state.before
