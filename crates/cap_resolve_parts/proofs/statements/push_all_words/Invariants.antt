use Rattle.std.proofs.Common.{◌≡◌, ◌++◌, drop, flat_map}
use Rattle.cap_resolve_spec.specs.Parts.{term_words}
use Rattle.cap_resolve_parts.specs.Views.{words_view, terms_view}
use Rattle.cap_resolve_parts.proofs.statements.push_all_words.Given as goal

abbrev pub invariant-loop-term : goal.invariant-loop-term
invariant-loop-term l =
    words_view l.words.items ++ flat_map term_words (terms_view (drop l.term-index l.terms))
    ≡ words_view l.fn.words.items ++ flat_map term_words (terms_view l.terms)
