use Rattle.std.proofs.Common.{◌↔◌, drop}
use Rattle.cap_farkas.specs.Farkas.{Names}
use Rattle.cap_farkas.specs.System.{all_rows}
use Rattle.cap_farkas.proofs.leaf.names_rows.Given as goal

abbrev pub invariant-loop-entry : goal.invariant-loop-entry
invariant-loop-entry l = Names 0 (all_rows l.rows l.appended) l.leaf ↔ Names l.low (all_rows l.rows l.appended) (drop l.entry-index l.leaf)
