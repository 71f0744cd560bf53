use Rattle.std.proofs.Common.{◌≡◌, ◌++◌, drop, map}
use Rattle.cap_resolve_spec.specs.Names.{word_place}
use Rattle.cap_resolve_spec.specs.Items.{occurrence_words}
use Rattle.cap_resolve_tables.specs.Views.{occurrences_view}
use Rattle.cap_resolve_findings.proofs.clauses.places_with.Given as goal

abbrev pub invariant-loop-name : goal.invariant-loop-name
invariant-loop-name l =
    l.places.items ++ map word_place (occurrence_words (occurrences_view (drop l.name-index l.names)))
    ≡ l.counted ++ map word_place (occurrence_words (occurrences_view l.names))
