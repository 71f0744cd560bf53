use Rattle.std.proofs.Common.{◌≡◌, ◌++◌, drop, map}
use Rattle.cap_resolve_tables.specs.Views.{occurrences_view}
use Rattle.cap_resolve_scopes.specs.Lists.{known_entry}
use Rattle.cap_resolve_scopes.proofs.bodies.push_body_names.Given as goal

abbrev pub invariant-loop-name : goal.invariant-loop-name
invariant-loop-name l =
    l.scope ++ map (known_entry l.destinations) (occurrences_view (drop l.name-index l.fixed))
    ≡ l.fn.scope ++ map (known_entry l.destinations) (occurrences_view l.fixed)
