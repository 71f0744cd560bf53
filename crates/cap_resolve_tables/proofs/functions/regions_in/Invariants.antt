use Rattle.std.proofs.Common.{◌≡◌, ◌++◌, drop, map, filter_map}
use Rattle.cap_parse_tree.specs.Views.{tree_view, declaration_view}
use Rattle.cap_resolve_spec.specs.Parts.{region_in, regions}
use Rattle.cap_resolve_parts.specs.Views.{regions_view}
use Rattle.cap_resolve_tables.proofs.functions.regions_in.Given as goal

abbrev pub invariant-loop-declaration : goal.invariant-loop-declaration
invariant-loop-declaration l =
    regions_view l.found.items ++ filter_map region_in (map declaration_view (drop l.declaration-index l.declaration-items))
    ≡ regions (tree_view l.tree)
