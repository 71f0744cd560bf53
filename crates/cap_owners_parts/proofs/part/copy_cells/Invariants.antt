use Rattle.std.proofs.Common.{◌≡◌}
use Rattle.std.specs.FinMap.{empty, from_entries}
use Rattle.cap_owners_parts.proofs.Maps.{puts}
use Rattle.cap_owners_parts.proofs.part.copy_cells.Given as goal

abbrev pub invariant-loop-address : goal.invariant-loop-address
invariant-loop-address l = puts (from_entries l.copies.entries) l.address-iterator ≡ puts empty l.cells.entries
