use Rattle.std.proofs.Common.{ℕ, drop}
use Rattle.cap_fm_elimination.specs.Views.{entries_of, IsStageOf}
use Rattle.cap_fm_elimination.proofs.Pairs.{BoundsGo}
use Rattle.cap_fm_elimination.proofs.bounds.by_bounds.Given as goal

abbrev pub invariant-loop-upper : goal.invariant-loop-upper
invariant-loop-upper l = (inputs : ℕ) → IsStageOf inputs l.fn.stage (entries_of l.fn.stage l.fn.rows.items) → BoundsGo inputs l.variable l.fn.stage l.stage (entries_of l.fn.stage l.fn.rows.items) (entries_of l.stage l.kept.items) (drop l.upper-index (entries_of l.fn.stage l.upper-items)) (entries_of l.fn.stage l.lowers.items)
