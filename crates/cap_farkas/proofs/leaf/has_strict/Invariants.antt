use Rattle.std.proofs.Common.{◌↔◌, drop}
use Rattle.cap_farkas.specs.Farkas.{HasStrict}
use Rattle.cap_farkas.specs.System.{all_rows}
use Rattle.cap_farkas.proofs.leaf.has_strict.Given as goal

abbrev pub invariant-loop-entry : goal.invariant-loop-entry
invariant-loop-entry l = HasStrict (all_rows l.rows l.appended) l.leaf ↔ HasStrict (all_rows l.rows l.appended) (drop l.entry-index l.leaf)
