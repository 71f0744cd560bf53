use Rattle.std.proofs.Common.{take, length, ◌≡◌}
use Rattle.cap_fm_elimination.specs.Views.{AreNumbered, stage_view, entries_of}
use Rattle.cap_fm_elimination.proofs.Presence.{HasLeft}
use Rattle.cap_fm_elimination.proofs.equations.leave_all.Given as goal

abbrev pub invariant-loop-row : goal.invariant-loop-row
invariant-loop-row l = AreNumbered l.fn.stage (entries_of l.fn.stage l.rows) → length l.fn.stage.present.items ≡ length (stage_view l.fn.stage).arisen → HasLeft l.variable l.fn.stage l.stage (take l.row-index (entries_of l.fn.stage l.rows))
