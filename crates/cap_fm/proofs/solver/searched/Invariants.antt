use Rattle.std.proofs.Common.{drop}
use Rattle.cap_fm_spec.specs.Solving.{solved, splits}
use Rattle.cap_fm.proofs.Splits.{SameLog}
use Rattle.cap_fm.proofs.solver.searched.Given as goal

abbrev pub invariant-loop-place : goal.invariant-loop-place
invariant-loop-place l = SameLog (solved l.rows) (splits l.rows l.place (drop l.place l.rows))
