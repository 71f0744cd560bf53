use Rattle.std.proofs.Common.{◌≡◌, drop, filter, fold, not}
use Rattle.cap_resolve_spec.specs.Names.{knows, with_first}
use Rattle.cap_resolve_spec.specs.Items.{name_of, new_names, scope_of}
use Rattle.cap_resolve_tables.specs.Views.{occurrences_view}
use Rattle.cap_resolve_tables.proofs.occurrences.new_names.Given as goal

abbrev pub invariant-loop-occurrence : goal.invariant-loop-occurrence
invariant-loop-occurrence l =
    (fold (with_first name_of) (occurrences_view l.names.items) (filter (λ o. not (knows l.scope (name_of o))) (occurrences_view (drop l.occurrence-index l.occurrences)))
    ≡ new_names l.scope (occurrences_view l.occurrences))
    × (l.seen ≡ scope_of (occurrences_view l.names.items))
