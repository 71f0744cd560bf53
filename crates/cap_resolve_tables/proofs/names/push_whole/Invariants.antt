use Rattle.std.proofs.Common.{◌≡◌, ◌++◌, drop}
use Rattle.cap_resolve_spec.specs.Names.{whole_numbers}
use Rattle.cap_resolve_parts.specs.Views.{words_view}
use Rattle.cap_resolve_tables.proofs.names.push_whole.Given as goal

abbrev pub invariant-loop-word : goal.invariant-loop-word
invariant-loop-word l =
    l.scope ++ whole_numbers (words_view (drop l.word-index l.words)) ≡ l.fn.scope ++ whole_numbers (words_view l.words)
