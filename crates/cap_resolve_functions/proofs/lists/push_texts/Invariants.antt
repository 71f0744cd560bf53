use Rattle.std.proofs.Common.{◌≡◌, ◌++◌, drop, map}
use Rattle.cap_resolve_spec.specs.Names.{word_text}
use Rattle.cap_resolve_parts.specs.Views.{words_view}
use Rattle.cap_resolve_functions.proofs.lists.push_texts.Given as goal

abbrev pub invariant-loop-word : goal.invariant-loop-word
invariant-loop-word l =
    l.names.items ++ map word_text (words_view (drop l.word-index l.words)) ≡ l.fn.names.items ++ map word_text (words_view l.words)
