use Rattle.std.proofs.Common.{◌≡◌, ◌++◌, drop}
use Rattle.cap_resolve_spec.specs.Names.{hidden}
use Rattle.cap_resolve_parts.specs.Views.{words_view}
use Rattle.cap_resolve_tables.proofs.names.push_hidden.Given as goal

abbrev pub invariant-loop-word : goal.invariant-loop-word
invariant-loop-word l =
    l.scope ++ hidden (words_view (drop l._word-index l.words)) ≡ l.fn.scope ++ hidden (words_view l.words)
