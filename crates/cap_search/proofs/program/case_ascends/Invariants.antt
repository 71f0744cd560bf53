use Rattle.std.proofs.Common.{take}
use Rattle.std.specs.List.{AllByRecursion}
use Rattle.cap_rules_ascending.specs.Ascending.{CompAscends}
use Rattle.cap_search.proofs.program.case_ascends.Given as goal

abbrev pub invariant-loop-comparison : goal.invariant-loop-comparison
invariant-loop-comparison l = AllByRecursion CompAscends (take l.comparison-index l.comparison-items)
