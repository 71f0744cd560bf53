use Rattle.std.proofs.Common.{◌≡◌, ◌++◌, drop, map}
use Rattle.std.specs.List.{enumerate_from}
use Rattle.cap_prog.specs.Views as seen
use Rattle.cap_resolve_spec.specs.Items.{numbered, numbered_regions}
use Rattle.cap_resolve_spec.specs.Program.{region_program}
use Rattle.cap_resolve_tables.specs.Tables.{type_view, regions_of}
use Rattle.cap_resolve_program.proofs.parts.build_regions.Given as goal

-- what was built, and what is left, are the whole; the number is the place
abbrev pub invariant-loop-region : goal.invariant-loop-region
invariant-loop-region l =
    (map seen.region_view l.built.items ++ map (region_program (regions_of l.regions)) (map numbered (enumerate_from l.number (map type_view (drop l.region-index l.regions.types.items))))
    ≡ map (region_program (regions_of l.regions)) (numbered_regions (regions_of l.regions)))
    × (l.number ≡ l.region-index)
