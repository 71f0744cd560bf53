use Rattle.std.proofs.Common.{◌≡◌, drop, fold, flat_map}
use Rattle.cap_resolve_spec.specs.Finding.{note}
use Rattle.cap_resolve_terms.specs.Views.{noted_view}
use Rattle.cap_resolve_spec.specs.Terms.{terms_findings, comparison_wanted}
use Rattle.cap_resolve_parts.specs.Views.{comparisons_view}
use Rattle.cap_resolve_units.proofs.regions.note_comparisons.Given as goal

abbrev pub invariant-loop-comparison : goal.invariant-loop-comparison
invariant-loop-comparison l =
    fold note (noted_view l.noted) (terms_findings l.scope (flat_map (comparison_wanted l.scope) (comparisons_view (drop l.comparison-index l.comparisons))))
    ≡ fold note (noted_view l.fn.noted) (terms_findings l.scope (flat_map (comparison_wanted l.scope) (comparisons_view l.comparisons)))
