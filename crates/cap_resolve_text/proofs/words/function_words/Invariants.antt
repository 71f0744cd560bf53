use Rattle.std.proofs.Common.{◌≡◌, ◌++◌, drop, map}
use Rattle.cap_resolve_spec.specs.Stands.{function_word}
use Rattle.cap_resolve_parts.specs.Views.{words_view, functions_view}
use Rattle.cap_resolve_text.proofs.words.function_words.Given as goal

abbrev pub invariant-loop-function : goal.invariant-loop-function
invariant-loop-function l =
    words_view l.words.items ++ map function_word (functions_view (drop l.function-index l.functions)) ≡ map function_word (functions_view l.functions)
