use Rattle.std.proofs.Common.{ℕ, ◌-◌, ◌≤◌, ◌^◌}
use Rattle.cap_fm_elimination.specs.Views.{entries_of, IsStageOf}
use Rattle.cap_fm_elimination.specs.Answers.{AreRows}
use Rattle.cap_fm_elimination.proofs.Walks.{VariablesGo}
use Rattle.cap_fm_elimination.proofs.eliminate.by_variables.Given as goal

abbrev pub invariant-loop-variable : goal.invariant-loop-variable
invariant-loop-variable l = record {
  bound : l.low ≤ 2 ^ 32;
  left : (inputs : ℕ) → IsStageOf inputs l.fn.stage (entries_of l.fn.stage l.fn.rows.items) → AreRows (entries_of l.fn.stage l.fn.rows.items) → VariablesGo inputs l.fn.stage l.stage (entries_of l.fn.stage l.fn.rows.items) (entries_of l.stage l.rows.items) l.low;
}

abbrev pub decreases-loop-variable : goal.decreases-loop-variable
decreases-loop-variable l = 2 ^ 32 - l.low
