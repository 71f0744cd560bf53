use Rattle.std.proofs.Common.{◌≡◌, ◌++◌, drop}
use Rattle.cap_resolve_spec.specs.Items.{types_told}
use Rattle.cap_resolve_parts.specs.Views.{parts_view}
use Rattle.cap_resolve_tables.specs.Tables.{regions_of, typed_list}
use Rattle.cap_resolve_tables.proofs.types.push_types.Given as goal

abbrev pub invariant-loop-part : goal.invariant-loop-part
invariant-loop-part l =
    typed_list l.list.items ++ types_told (regions_of l.regions) (parts_view (drop l.part-index l.parts))
    ≡ typed_list l.fn.list.items ++ types_told (regions_of l.regions) (parts_view l.parts)
