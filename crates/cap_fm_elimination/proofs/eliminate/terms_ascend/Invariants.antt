use Rattle.std.proofs.Common.{take}
use Rattle.cap_fm_spec.specs.Solving.{RowsAscend}
use Rattle.cap_fm_elimination.proofs.eliminate.terms_ascend.Given as goal

abbrev pub invariant-loop-row : goal.invariant-loop-row
invariant-loop-row l = RowsAscend (take l.row-index l.rows)
