use Rattle.std.proofs.Common.{◌≡◌, drop, fold, filter}
use Rattle.cap_resolve_spec.specs.Names.{with_first, word_text, whole_numbers}
use Rattle.cap_resolve_parts.specs.Views.{words_view}
use Rattle.cap_resolve_scopes.specs.Lists.{firsts_known, is_known_local}
use Rattle.cap_resolve_scopes.proofs.bodies.local_words.Given as goal

abbrev pub invariant-loop-word : goal.invariant-loop-word
invariant-loop-word l =
    (fold (with_first word_text) (words_view l.locals.items) (filter (is_known_local l.destinations l.given) (words_view (drop l.word-index l.words)))
    ≡ firsts_known l.destinations l.given (words_view l.words))
    × (l.seen ≡ whole_numbers (words_view l.locals.items))
