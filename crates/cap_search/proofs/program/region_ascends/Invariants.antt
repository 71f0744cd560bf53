use Rattle.std.proofs.Common.{map, take}
use Rattle.std.specs.List.{AllByRecursion}
use Rattle.cap_prog.specs.Views.{case_view}
use Rattle.cap_rules_ascending.specs.Ascending.{CaseAscends}
use Rattle.cap_search.proofs.program.region_ascends.Given as goal

abbrev pub invariant-loop-case : goal.invariant-loop-case
invariant-loop-case l = AllByRecursion CaseAscends (map case_view (take l.case-index l.case-items))
