use Rattle.std.proofs.Common.{◌≡◌, ◌++◌, drop, map}
use Rattle.cap_resolve_spec.specs.Items.{occurs}
use Rattle.cap_resolve_parts.specs.Views.{words_view}
use Rattle.cap_resolve_tables.specs.Views.{occurrences_view}
use Rattle.cap_resolve_tables.proofs.occurrences.push_words.Given as goal

abbrev pub invariant-loop-word : goal.invariant-loop-word
invariant-loop-word l =
    occurrences_view l.list.items ++ map (occurs l.bound l.sort) (words_view (drop l.word-index l.words))
    ≡ occurrences_view l.fn.list.items ++ map (occurs l.bound l.sort) (words_view l.words)
