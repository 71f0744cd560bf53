use Rattle.std.proofs.Common.{◌≡◌, ◌++◌, drop, flat_map}
use Rattle.cap_resolve_spec.specs.Parts.{comparison_words}
use Rattle.cap_resolve_spec.specs.Items.{unbound}
use Rattle.cap_resolve_parts.specs.Views.{comparisons_view}
use Rattle.cap_resolve_tables.specs.Views.{occurrences_view}
use Rattle.cap_resolve_scopes.proofs.regions.push_comparisons.Given as goal

abbrev pub invariant-loop-comparison : goal.invariant-loop-comparison
invariant-loop-comparison l =
    occurrences_view l.list.items ++ unbound (flat_map comparison_words (comparisons_view (drop l.comparison-index l.comparisons)))
    ≡ occurrences_view l.fn.list.items ++ unbound (flat_map comparison_words (comparisons_view l.comparisons))
