use Rattle.std.proofs.Common.{◌≡◌, ◌++◌, drop}
use Rattle.cap_resolve_spec.specs.Program.{occurrence_sorts}
use Rattle.cap_resolve_tables.specs.Views.{occurrences_view}
use Rattle.cap_resolve_functions.proofs.lists.build_sorts.Given as goal

abbrev pub invariant-loop-name : goal.invariant-loop-name
invariant-loop-name l =
    l.sorts.items ++ occurrence_sorts (occurrences_view (drop l.name-index l.names)) ≡ occurrence_sorts (occurrences_view l.names)
