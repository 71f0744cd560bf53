use Rattle.std.proofs.Common.{◌≡◌, ◌≤◌, length, drop}
use Rattle.std.specs.FinMap.{from_entries}
use Rattle.std.specs.Ordering.{int_cmp}
use Rattle.cap_owners_start.proofs.cells.Cells.of.Given as goal

abbrev pub invariant-loop-count : goal.invariant-loop-count
invariant-loop-count l = record {
  bound : l.count ≤ length l.pairs;
  put : l.cells ≡ from_entries {R = int_cmp} (drop l.count l.pairs);
}

abbrev pub decreases-loop-count : goal.decreases-loop-count
decreases-loop-count l = l.count
