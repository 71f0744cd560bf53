use Rattle.cap_core.proofs.Walk.{Goes}
use Rattle.cap_core.proofs.leaving.core.Given as goal

abbrev pub invariant-loop-number : goal.invariant-loop-number
invariant-loop-number l = Goes l.rows l.left.items l.numbers.items l.number
