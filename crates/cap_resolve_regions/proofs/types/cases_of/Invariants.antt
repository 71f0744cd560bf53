use Rattle.std.proofs.Common.{◌≡◌, ◌++◌, drop, map}
use Rattle.cap_prog.specs.Views as seen
use Rattle.cap_parse_tree.specs.Views.{case_view}
use Rattle.cap_resolve_spec.specs.Program.{case_program}
use Rattle.cap_resolve_tables.specs.Tables.{regions_of, numbered_view}
use Rattle.cap_resolve_regions.proofs.types.cases_of.Given as goal

abbrev pub invariant-loop-case : goal.invariant-loop-case
invariant-loop-case l =
    map seen.case_view l.made.items ++ map (case_program (regions_of l.regions) (numbered_view l.region)) (map case_view (drop l.case-index l.cases))
    ≡ map (case_program (regions_of l.regions) (numbered_view l.region)) (map case_view l.cases)
