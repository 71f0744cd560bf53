use Rattle.cap_fm_elimination.proofs.Filters.{AreParted}
use Rattle.cap_fm_elimination.proofs.bounds.part.Given as goal

abbrev pub invariant-loop-row : goal.invariant-loop-row
invariant-loop-row l = AreParted l.variable l.stage l.yielded l.without.items l.uppers.items l.lowers.items
