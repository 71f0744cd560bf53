use Rattle.std.proofs.Common.{◌≡◌, ◌++◌, drop, filter}
use Rattle.cap_resolve_spec.specs.Items.{is_bound}
use Rattle.cap_resolve_tables.specs.Views.{occurrences_view}
use Rattle.cap_resolve_tables.proofs.occurrences.bound_names.Given as goal

abbrev pub invariant-loop-name : goal.invariant-loop-name
invariant-loop-name l =
    occurrences_view l.bound.items ++ filter is_bound (occurrences_view (drop l.name-index l.names))
    ≡ filter is_bound (occurrences_view l.names)
