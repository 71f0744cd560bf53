use Rattle.std.proofs.Common.{◌≡◌, take}
use Rattle.std.specs.Ordering.{int_cmp}
use Rattle.std.specs.FinMap.{from_entries}
use Rattle.cap_owners_parts.proofs.part.first_cells.Given as goal

abbrev pub invariant-loop-cell : goal.invariant-loop-cell
invariant-loop-cell l = from_entries {R = int_cmp} l.first.entries ≡ from_entries (take l.cell-index l.cells)
