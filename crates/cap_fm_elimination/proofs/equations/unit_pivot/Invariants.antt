use Rattle.std.proofs.Common.{take}
use Rattle.std.specs.List.{AllByRecursion}
use Rattle.cap_fm_spec.specs.Elimination.{unit_variable}
use Rattle.cap_fm_elimination.specs.Views.{entries_of}
use Rattle.cap_fm_elimination.proofs.Pivots.{IsPassed}
use Rattle.cap_fm_elimination.proofs.equations.unit_pivot.Given as goal

abbrev pub invariant-loop-place : goal.invariant-loop-place
invariant-loop-place l = AllByRecursion (IsPassed unit_variable) (take l.place (entries_of l.stage l.rows))
