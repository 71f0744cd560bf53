use Rattle.std.proofs.Common.{◌≡◌, ◌++◌, drop, map}
use Rattle.cap_lin.specs.declared.row.Sort.TheVariants.{Int}
use Rattle.cap_resolve_spec.specs.Names.{known_as}
use Rattle.cap_resolve_parts.specs.Views.{regions_view}
use Rattle.cap_resolve_tables.specs.Tables.{type_view}
use Rattle.cap_resolve_tables.proofs.regions.region_table.Given as goal

abbrev pub invariant-loop-region : goal.invariant-loop-region
invariant-loop-region l =
    (map type_view l.types.items ++ regions_view (drop l.region-index l.regions) ≡ regions_view l.regions)
    × (l.names ≡ map (λ t. known_as Int t.tree.now.name) l.types.items)
