use Rattle.std.proofs.Common.{◌≡◌, ◌++◌, drop, map}
use Rattle.cap_resolve_spec.specs.Names.{word_place}
use Rattle.cap_resolve_parts.specs.Views.{words_view}
use Rattle.cap_resolve_units.proofs.functions.places_of_both.Given as goal

abbrev pub invariant-loop-word : goal.invariant-loop-word
invariant-loop-word l =
    l.places.items ++ map word_place (words_view (drop l.word-index l.others)) ≡ map word_place (words_view l.words ++ words_view l.others)
