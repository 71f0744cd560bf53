use Rattle.std.proofs.Common.{map, take}
use Rattle.std.specs.List.{AllByRecursion}
use Rattle.cap_prog.specs.Views.{region_view}
use Rattle.cap_rules_ascending.specs.Ascending.{TypeAscends}
use Rattle.cap_search.proofs.program.program_ascends.Given as goal

abbrev pub invariant-loop-region : goal.invariant-loop-region
invariant-loop-region l = AllByRecursion TypeAscends (map region_view (take l.region-index l.region-items))
