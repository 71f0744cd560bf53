use Rattle.std.proofs.Common.{◌≡◌, ◌++◌, drop, flat_map}
use Rattle.cap_resolve_spec.specs.Items.{guard_words}
use Rattle.cap_resolve_parts.specs.Views.{words_view, declareds_view}
use Rattle.cap_resolve_units.proofs.types.words_in_guards.Given as goal

abbrev pub invariant-loop-guard : goal.invariant-loop-guard
invariant-loop-guard l =
    words_view l.words.items ++ flat_map guard_words (declareds_view (drop l.guard-index l.guards)) ≡ flat_map guard_words (declareds_view l.guards)
