use Rattle.std.proofs.Common.{sym}
use Rattle.cap_owners_fill.proofs.Passing.{checked_some}
use Rattle.cap_owners_fill.proofs.given.are_empty.Goals as goal

pub returns-then-not-is_empty : goal.returns-then-not-is_empty
returns-then-not-is_empty c = sym (checked_some c.args.lists.now c.loop-list.list-index c.list-item.result c.loop-list-test.true c.list-item.is (sym c.if-not-is_empty.ensures) c.loop-list.invariant)
