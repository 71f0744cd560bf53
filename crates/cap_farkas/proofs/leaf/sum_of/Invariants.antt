use Rattle.std.proofs.Common.{◌≡◌, drop, pos}
use Rattle.cap_lin.specs.Steps.{first_wide}
use Rattle.cap_farkas.specs.Farkas.{column_sum, column_steps}
use Rattle.cap_farkas.specs.System.{part_of, all_rows}
use Rattle.cap_farkas.proofs.leaf.sum_of.Given as goal

abbrev pub invariant-loop-entry : goal.invariant-loop-entry
invariant-loop-entry l = record {
  steps : first_wide (column_steps (part_of l.column) (all_rows l.rows l.appended) l.sum (drop l.entry-index l.leaf)) ≡ first_wide (column_steps (part_of l.column) (all_rows l.rows l.appended) (pos 0) l.leaf);
  total : column_sum (part_of l.column) (all_rows l.rows l.appended) l.sum (drop l.entry-index l.leaf) ≡ column_sum (part_of l.column) (all_rows l.rows l.appended) (pos 0) l.leaf;
}
