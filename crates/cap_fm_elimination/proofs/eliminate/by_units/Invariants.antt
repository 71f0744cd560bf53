use Rattle.std.proofs.Common.{ℕ, length, ◌-◌}
use Rattle.cap_fm_spec.specs.Elimination.{by_units}
use Rattle.cap_fm_elimination.specs.Views.{stage_view, entries_view, entries_of, IsStageOf}
use Rattle.cap_fm_elimination.specs.Answers.{AllUnits, Same}
use Rattle.cap_fm_elimination.proofs.eliminate.by_units.Given as goal

abbrev pub invariant-loop-turn : goal.invariant-loop-turn
invariant-loop-turn l = (inputs : ℕ) → IsStageOf inputs l.fn.stage (entries_of l.fn.stage l.fn.rows.items) → IsStageOf inputs l.stage (entries_of l.stage l.rows.items) × Same (AllUnits (entries_of l.fn.stage l.fn.rows.items) l.fn.stage) (by_units (length l.fn.rows.items - l._turn) (entries_view (entries_of l.stage l.rows.items)) (stage_view l.stage))
