use Rattle.std.proofs.Common.{◌≡◌, drop, fold, map, filter, not, flat_map}
use Rattle.cap_resolve_tables.specs.Views.{occurrences_view}
use Rattle.cap_resolve_spec.specs.Finding.{unknown_word}
use Rattle.cap_resolve_spec.specs.Items.{occurrence_words}
use Rattle.cap_resolve_spec.specs.Finding.{note}
use Rattle.cap_resolve_terms.specs.Views.{noted_view}
use Rattle.cap_resolve_findings.proofs.names.note_unknown.Given as goal

abbrev pub invariant-loop-name : goal.invariant-loop-name
invariant-loop-name l =
    fold note (noted_view l.noted) (map unknown_word (occurrence_words (occurrences_view (drop l.name-index l.names))))
    ≡ fold note (noted_view l.fn.noted) (map unknown_word (occurrence_words (occurrences_view l.names)))
