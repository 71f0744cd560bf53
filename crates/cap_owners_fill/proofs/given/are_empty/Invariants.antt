use Rattle.cap_owners_fill.proofs.Passing.{Checked}
use Rattle.cap_owners_fill.proofs.given.are_empty.Given as goal

abbrev pub invariant-loop-list : goal.invariant-loop-list
invariant-loop-list l = Checked l.lists l.list-index
