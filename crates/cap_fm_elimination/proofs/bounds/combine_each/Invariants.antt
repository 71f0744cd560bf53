use Rattle.std.proofs.Common.{ℕ, drop}
use Rattle.cap_fm_elimination.specs.Views.{entry_of, entries_of, IsStageOf, IsNumbered, AreNumbered}
use Rattle.cap_fm_elimination.proofs.Pairs.{EachGoes}
use Rattle.cap_fm_elimination.proofs.bounds.combine_each.Given as goal

abbrev pub invariant-loop-lower : goal.invariant-loop-lower
invariant-loop-lower l = (inputs : ℕ) → IsStageOf inputs l.fn.stage (entries_of l.fn.stage l.fn.kept.items) → IsNumbered l.fn.stage (entry_of l.fn.stage l.upper) → AreNumbered l.fn.stage (entries_of l.fn.stage l.lowers) → EachGoes inputs l.variable (entry_of l.fn.stage l.upper) l.fn.stage l.stage (entries_of l.fn.stage l.fn.kept.items) (entries_of l.stage l.kept.items) (entries_of l.fn.stage l.lowers) (drop l.lower-index (entries_of l.fn.stage l.lowers))
