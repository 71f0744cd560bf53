use Rattle.std.proofs.Common.{drop}
use Rattle.cap_rules.specs.Resting.{rows_over}
use Rattle.cap_rules_steps.proofs.Walking.{Leads}
use Rattle.cap_stab_states.proofs.Collecting.{behind_these}
use Rattle.cap_stab_states.proofs.wanting.rows_over.Given as goal

abbrev pub invariant-loop-comparison : goal.invariant-loop-comparison
invariant-loop-comparison l = Leads (behind_these l.rows.items (rows_over l.names (drop l.comparison-index l.comparisons))) (rows_over l.names l.comparisons)
