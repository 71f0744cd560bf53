use Rattle.std.proofs.Common.{◌≡◌, drop, fold, map, filter, not, flat_map}
use Rattle.cap_resolve_parts.specs.Views.{words_view}
use Rattle.cap_resolve_spec.specs.Finding.{twice_word}
use Rattle.cap_resolve_spec.specs.Names.{is_ret}
use Rattle.cap_resolve_spec.specs.Finding.{note}
use Rattle.cap_resolve_terms.specs.Views.{noted_view}
use Rattle.cap_resolve_findings.proofs.names.note_ret_words.Given as goal

abbrev pub invariant-loop-word : goal.invariant-loop-word
invariant-loop-word l =
    fold note (noted_view l.noted) (map twice_word (filter (λ w. is_ret w.text) (words_view (drop l.word-index l.words))))
    ≡ fold note (noted_view l.fn.noted) (map twice_word (filter (λ w. is_ret w.text) (words_view l.words)))
