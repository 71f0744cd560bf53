use Rattle.std.proofs.Common.{◌≡◌, ◌++◌, drop}
use Rattle.cap_resolve_spec.specs.Items.{occurrences}
use Rattle.cap_resolve_parts.specs.Views.{parts_view}
use Rattle.cap_resolve_tables.specs.Tables.{types_of}
use Rattle.cap_resolve_tables.specs.Views.{occurrences_view}
use Rattle.cap_resolve_tables.proofs.atoms.push_occurrences.Given as goal

abbrev pub invariant-loop-part : goal.invariant-loop-part
invariant-loop-part l =
    occurrences_view l.list.items ++ occurrences (types_of l.types) (parts_view (drop l.part-index l.parts))
    ≡ occurrences_view l.fn.list.items ++ occurrences (types_of l.types) (parts_view l.parts)
