use Rattle.std.proofs.Common.{◌≡◌, ◌++◌, drop}
use Rattle.cap_resolve_spec.specs.Items.{scope_of}
use Rattle.cap_resolve_tables.specs.Views.{occurrences_view}
use Rattle.cap_resolve_tables.proofs.occurrences.push_known.Given as goal

abbrev pub invariant-loop-name : goal.invariant-loop-name
invariant-loop-name l =
    l.scope ++ scope_of (occurrences_view (drop l.name-index l.names)) ≡ l.fn.scope ++ scope_of (occurrences_view l.names)
