use Rattle.cap_farkas.specs.System.{all_rows}
use Rattle.cap_farkas.proofs.Columns.{IsNextOf}
use Rattle.cap_farkas.proofs.leaf.next_variable.Given as goal

abbrev pub invariant-loop-entry : goal.invariant-loop-entry
invariant-loop-entry l = IsNextOf l.low (all_rows l.rows l.appended) l.leaf l.entry-index l.next
