use Rattle.std.proofs.Common.{◌≡◌, drop, fold, map}
use Rattle.cap_resolve_spec.specs.Finding.{note, twice_word}
use Rattle.cap_resolve_spec.specs.Names.{repeated}
use Rattle.cap_resolve_terms.specs.Views.{noted_view}
use Rattle.cap_resolve_parts.specs.Views.{words_view}
use Rattle.cap_resolve_findings.proofs.Noting.{repeated_by}
use Rattle.cap_resolve_findings.proofs.names.note_repeated.Given as goal

abbrev pub invariant-loop-word : goal.invariant-loop-word
invariant-loop-word l =
    fold note (noted_view l.noted) (map twice_word (repeated_by l.seen (words_view (drop l.word-index l.words))))
    ≡ fold note (noted_view l.fn.noted) (map twice_word (repeated (words_view l.words)))
