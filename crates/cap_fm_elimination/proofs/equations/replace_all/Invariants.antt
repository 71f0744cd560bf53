use Rattle.std.proofs.Common.{ℕ}
use Rattle.cap_fm_elimination.specs.Views.{entry_of, entries_of, lacking_rows, IsStageOf, IsNumbered, AreNumbered}
use Rattle.cap_fm_elimination.proofs.Replacing.{AllGoes}
use Rattle.cap_fm_elimination.proofs.equations.replace_all.Given as goal

abbrev pub invariant-loop-row : goal.invariant-loop-row
invariant-loop-row l = (inputs : ℕ) → IsStageOf inputs l.fn.stage (lacking_rows l.variable (entries_of l.fn.stage l.fn.rows.items)) → AreNumbered l.fn.stage (entries_of l.fn.stage l.fn.rows.items) → IsNumbered l.fn.stage (entry_of l.fn.stage l.equation) → AllGoes inputs l.variable (entry_of l.fn.stage l.equation) l.fn.stage l.stage (entries_of l.stage l.replaced.items) (entries_of l.fn.stage l.fn.rows.items) (entries_of l.fn.stage l.row-iterator.rest.items)
