use Rattle.std.proofs.Common.{[], ◌++◌, length, drop}
use Rattle.cap_fm_spec.specs.Elimination.{inputs}
use Rattle.cap_fm_elimination.specs.Views.{stage_view, entries_view, entries_of, IsStageOf}
use Rattle.cap_fm_elimination.specs.Answers.{Same}
use Rattle.cap_fm_elimination.proofs.eliminate.inputs.Given as goal

abbrev pub invariant-loop-i : goal.invariant-loop-i
invariant-loop-i l = IsStageOf (length (l.rows ++ l.more)) l.fn.stage [] → IsStageOf (length (l.rows ++ l.more)) l.stage (entries_of l.stage l.entries.items) × Same (inputs [] 0 (l.rows ++ l.more) (stage_view l.fn.stage)) (inputs (entries_view (entries_of l.stage l.entries.items)) l.i (drop l.i (l.rows ++ l.more)) (stage_view l.stage))
