use Rattle.std.proofs.Common.{◌≡◌, drop}
use Rattle.cap_owners_spec.specs.Filling.{with_cells}
use Rattle.cap_owners_parts.proofs.held.put_cells.Given as goal

abbrev pub invariant-loop-cell : goal.invariant-loop-cell
invariant-loop-cell l = with_cells l.values l.part (drop l.cell-index l.cells) ≡ with_cells l.values l.fn.part l.cells
