use Rattle.std.proofs.Common.{◌≡◌, ◌++◌, drop}
use Rattle.cap_core.proofs.leaving.copies.Given as goal

-- what is there and what is left are the whole
abbrev pub invariant-loop-row : goal.invariant-loop-row
invariant-loop-row l = l.all.items ++ drop l.row-index l.rows ≡ l.fn.rows
