-- The trees of one unit that is proved are valid derivations of it, so its proofs have cores.
use Rattle.std.proofs.Common.{ℕ, List, Option}
use Rattle.std.specs.List.{AllByRecursion}
use Rattle.cap_prog.specs.Program.{PlainProgram}
use Rattle.cap_prog.specs.WellFormed.{IsWellFormed}
use Rattle.cap_goal_spec.specs.Choices.{PlainTree}
use Rattle.cap_goal_spec.specs.Roots.{PlainUnit, roots}
use Rattle.cap_goal_roots.specs.Units.{HasUnit}
use Rattle.cap_rules_ascending.specs.Ascending.{ProgramAscends}
use Rattle.cap_rules_ascending.specs.Laws.{RootAscends, RootsAscend}
use Rattle.cap_search_spec.specs.Laws.{FoundAreFirst, IsProved}
use Rattle.cap_search_spec.proofs.Lawful.{of-verdict, roots-derive}
use Rattle.cap_search.proofs.Searchable.{unit-each}
use Rattle.cap_core_text.specs.cap_kernel_nodes.Laws.{UnitDerives}
use Rattle.cap_core_text.specs.Laws.{ProofsHaveCores}
use Rattle.cap_top_report.specs.Laws.{ProvedDerive, ProvedHaveCores}

pub proved-derive : RootsAscend → FoundAreFirst → ProvedDerive
proved-derive ascend first p budget u ts s has h =
    let v = of-verdict p budget u ts h in
    let roots-in-order : AllByRecursion RootAscends (roots p u) = unit-each RootAscends (roots p) p u has (ascend p s) in
    record {
      narrow = v.narrow;
      trees = roots-derive p ts (roots p u) (first p budget (roots p u) ts roots-in-order v.found);
    }

pub proved-cores : ProofsHaveCores → ProvedDerive → ProvedHaveCores
proved-cores cores derive p budget w s u ts has h = cores p u ts w s (derive p budget u ts s has h)
