use Rattle.std.proofs.Common.{◌≤◌, length}
use Rattle.cap_owners_fill.specs.Views.{giving_first}
use Rattle.cap_owners_fill.proofs.Passing.{Left}
use Rattle.cap_owners_fill.proofs.given.give_all.Given as goal

abbrev pub invariant-loop-count : goal.invariant-loop-count
invariant-loop-count l = record {
  bound : l.count ≤ length l.items.lists.items;
  left : Left l.fill.names l.items.lists.items l.count (giving_first l.fill l.env) l.giving;
}

abbrev pub decreases-loop-count : goal.decreases-loop-count
decreases-loop-count l = l.count
