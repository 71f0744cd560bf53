use Rattle.std.proofs.Common.{take}
use Rattle.cap_fm_elimination.specs.Views.{entries_of}
use Rattle.cap_fm_elimination.specs.Answers.{IsLeast}
use Rattle.cap_fm_elimination.proofs.eliminate.least_variable.Given as goal

abbrev pub invariant-loop-row : goal.invariant-loop-row
invariant-loop-row l = IsLeast l.low (take l.row-index (entries_of l.stage l.rows)) l.least
