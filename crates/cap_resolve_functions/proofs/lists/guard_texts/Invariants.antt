use Rattle.std.proofs.Common.{◌≡◌, ◌++◌, drop, map, flat_map}
use Rattle.cap_resolve_spec.specs.Names.{word_text}
use Rattle.cap_resolve_spec.specs.Items.{guard_words}
use Rattle.cap_resolve_parts.specs.Views.{declareds_view}
use Rattle.cap_resolve_functions.proofs.lists.guard_texts.Given as goal

abbrev pub invariant-loop-guard : goal.invariant-loop-guard
invariant-loop-guard l =
    l.names.items ++ map word_text (flat_map guard_words (declareds_view (drop l.guard-index l.guards)))
    ≡ map word_text (flat_map guard_words (declareds_view l.guards))
