use Rattle.std.proofs.Common.{◌≡◌, take}
use Rattle.std.specs.FinMap.{from_entries}
use Rattle.std.specs.Ordering.{int_cmp}
use Rattle.cap_machine.proofs.heap.Heap.of.Given as goal

abbrev pub invariant-loop-cell : goal.invariant-loop-cell
invariant-loop-cell l = l.heap ≡ from_entries {R = int_cmp} (take l.cell-index l.cells)
