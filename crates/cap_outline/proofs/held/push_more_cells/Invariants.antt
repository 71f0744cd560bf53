use Rattle.std.proofs.Common.{◌≡◌, ◌++◌, drop}
use Rattle.std.specs.Prelude.{codes, flat_map}
use Rattle.cap_outline_spec.specs.Texts.{cell_text}
use Rattle.cap_outline.proofs.held.push_more_cells.Given as goal

-- what is written and what is left are the whole
abbrev pub invariant-loop-cell : goal.invariant-loop-cell
invariant-loop-cell l =
    l.text.items ++ flat_map (λ x. codes "; " ++ cell_text x) (drop l.cell-index l.cells)
    ≡ l.fn.text.items ++ flat_map (λ x. codes "; " ++ cell_text x) l.cells
