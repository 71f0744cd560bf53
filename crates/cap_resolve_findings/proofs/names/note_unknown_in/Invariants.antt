use Rattle.std.proofs.Common.{◌≡◌, drop, fold, map, filter, not, flat_map}
use Rattle.cap_resolve_parts.specs.Views.{words_view}
use Rattle.cap_resolve_spec.specs.Functions.{unknown_in}
use Rattle.cap_resolve_spec.specs.Finding.{note}
use Rattle.cap_resolve_terms.specs.Views.{noted_view}
use Rattle.cap_resolve_findings.proofs.names.note_unknown_in.Given as goal

abbrev pub invariant-loop-word : goal.invariant-loop-word
invariant-loop-word l =
    fold note (noted_view l.noted) (unknown_in l.scope (words_view (drop l.word-index l.words)))
    ≡ fold note (noted_view l.fn.noted) (unknown_in l.scope (words_view l.words))
