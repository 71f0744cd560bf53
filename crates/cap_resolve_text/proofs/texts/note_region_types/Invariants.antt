use Rattle.std.proofs.Common.{◌≡◌, drop, fold, map, flat_map}
use Rattle.std.specs.List.{enumerate_from}
use Rattle.cap_resolve_spec.specs.Finding.{note}
use Rattle.cap_resolve_spec.specs.Items.{numbered, numbered_regions}
use Rattle.cap_resolve_spec.specs.Regions.{region_type_findings}
use Rattle.cap_resolve_terms.specs.Views.{noted_view}
use Rattle.cap_resolve_tables.specs.Tables.{regions_of, type_view}
use Rattle.cap_resolve_text.proofs.texts.note_region_types.Given as goal

abbrev pub invariant-loop-region : goal.invariant-loop-region
invariant-loop-region l =
    (l.number ≡ l.region-index)
    × (fold note (noted_view l.noted) (flat_map (region_type_findings (regions_of l.regions)) (map numbered (enumerate_from l.region-index (map type_view (drop l.region-index l.region-items)))))
    ≡ fold note (noted_view l.fn.noted) (flat_map (region_type_findings (regions_of l.regions)) (numbered_regions (regions_of l.regions))))
