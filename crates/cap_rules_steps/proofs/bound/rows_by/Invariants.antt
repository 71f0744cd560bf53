use Rattle.std.proofs.Common.{drop}
use Rattle.cap_rules.specs.Making.{rows_by}
use Rattle.cap_rules_steps.proofs.Walking.{LeadsBehind}
use Rattle.cap_rules_steps.proofs.bound.rows_by.Given as goal

abbrev pub invariant-loop-comparison : goal.invariant-loop-comparison
invariant-loop-comparison l = LeadsBehind l.rows.items (rows_by l.env (drop l.comparison-index l.comparisons)) (rows_by l.env l.comparisons)
