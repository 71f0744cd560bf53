use Rattle.std.proofs.Common.{◌≡◌, drop, fold, map, filter}
use Rattle.cap_resolve_spec.specs.Finding.{note, unknown_word}
use Rattle.cap_resolve_spec.specs.Regions.{is_lost}
use Rattle.cap_resolve_terms.specs.Views.{noted_view}
use Rattle.cap_resolve_parts.specs.Views.{words_view, word_seen}
use Rattle.cap_resolve_units.proofs.indices.note_lost.Given as goal

abbrev pub invariant-loop-word : goal.invariant-loop-word
invariant-loop-word l =
    fold note (noted_view l.noted) (map unknown_word (filter (is_lost l.scope (word_seen l.source) (word_seen l.target)) (words_view (drop l.word-index l.words))))
    ≡ fold note (noted_view l.fn.noted) (map unknown_word (filter (is_lost l.scope (word_seen l.source) (word_seen l.target)) (words_view l.words)))
