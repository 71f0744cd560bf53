use Rattle.std.proofs.Common.{◌≡◌, ◌++◌, drop, map}
use Rattle.cap_resolve_spec.specs.Stands.{region_word}
use Rattle.cap_resolve_parts.specs.Views.{words_view, regions_view}
use Rattle.cap_resolve_text.proofs.words.region_words.Given as goal

abbrev pub invariant-loop-region : goal.invariant-loop-region
invariant-loop-region l =
    words_view l.words.items ++ map region_word (regions_view (drop l.region-index l.regions)) ≡ map region_word (regions_view l.regions)
