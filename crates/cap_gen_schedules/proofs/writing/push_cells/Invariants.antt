use Rattle.std.proofs.Common.{◌≡◌, ◌++◌, drop, flat_map}
use Rattle.std.specs.Prelude.{codes}
use Rattle.cap_replay_schedules.specs.Writing.{cell_text}
use Rattle.cap_gen_schedules.proofs.writing.push_cells.Given as goal

-- what is written, in front of what is left
abbrev pub invariant-loop-cell : goal.invariant-loop-cell
invariant-loop-cell l =
    l.text.items ++ flat_map (λ c. cell_text c ++ codes "\n") (drop l.cell-index l.cells)
    ≡ l.fn.text.items ++ flat_map (λ c. cell_text c ++ codes "\n") l.cells
