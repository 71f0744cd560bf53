use Rattle.cap_owners_fill.proofs.Passing.{Remains}
use Rattle.cap_owners_fill.proofs.giving.Giving.give_list.Given as goal

abbrev pub invariant-loop-place : goal.invariant-loop-place
invariant-loop-place l = Remains l.names l.list l.place l.fn.self l.self
