use Rattle.std.proofs.Common.{drop}
use Rattle.cap_rules.specs.Making.{with_rows}
use Rattle.cap_rules_steps.proofs.Walking.{Leads}
use Rattle.cap_rules_steps.proofs.changes.with_rows.Given as goal

abbrev pub invariant-loop-row : goal.invariant-loop-row
invariant-loop-row l = Leads (with_rows l.state (drop l.row-index l.rows)) (with_rows l.fn.state l.rows)
