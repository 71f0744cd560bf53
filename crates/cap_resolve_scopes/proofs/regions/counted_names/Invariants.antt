use Rattle.std.proofs.Common.{◌≡◌, ◌++◌, drop, flat_map, Some}
use Rattle.cap_resolve_spec.specs.Regions.{counted_in}
use Rattle.cap_resolve_parts.specs.Views.{guards_view}
use Rattle.cap_resolve_tables.specs.Tables.{numbered_view}
use Rattle.cap_resolve_tables.specs.Views.{occurrences_view}
use Rattle.cap_resolve_scopes.proofs.regions.counted_names.Given as goal

abbrev pub invariant-loop-atom : goal.invariant-loop-atom
invariant-loop-atom l =
    occurrences_view l.list.items ++ flat_map (counted_in (Some (numbered_view l.region))) (guards_view (drop l.atom-index l.atoms))
    ≡ flat_map (counted_in (Some (numbered_view l.region))) (guards_view l.atoms)
