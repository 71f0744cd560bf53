use Rattle.std.proofs.Common.{◌≡◌, ◌++◌, drop}
use Rattle.cap_resolve_spec.specs.Items.{occurrence_words}
use Rattle.cap_resolve_parts.specs.Views.{words_view}
use Rattle.cap_resolve_tables.specs.Views.{occurrences_view}
use Rattle.cap_resolve_scopes.proofs.assertions.words_of_occurrences.Given as goal

abbrev pub invariant-loop-name : goal.invariant-loop-name
invariant-loop-name l =
    words_view l.words.items ++ occurrence_words (occurrences_view (drop l.name-index l.names))
    ≡ words_view l.fn.words.items ++ occurrence_words (occurrences_view l.names)
