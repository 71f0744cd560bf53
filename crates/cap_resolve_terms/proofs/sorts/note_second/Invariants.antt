use Rattle.std.proofs.Common.{◌≡◌, drop, fold, filter, not}
use Rattle.cap_parse_tree.specs.Views.{product_view}
use Rattle.cap_resolve_terms.proofs.Rests.{factors_view}
use Rattle.cap_resolve_spec.specs.Finding.{note}
use Rattle.cap_resolve_spec.specs.Parts.{more_factors, is_multiplier}
use Rattle.cap_resolve_spec.specs.Terms.{main_factors, wrong_second}
use Rattle.cap_resolve_terms.specs.Views.{noted_view}
use Rattle.cap_resolve_terms.proofs.Seconds.{second_after}
use Rattle.cap_resolve_terms.proofs.sorts.note_second.Given as goal

abbrev pub invariant-loop-times : goal.invariant-loop-times
invariant-loop-times l =
    fold note (noted_view l.noted) (second_after l.first (filter (λ f. not (is_multiplier f)) (more_factors (factors_view (drop l.times-index l.times-items)))))
    ≡ fold note (noted_view l.fn.noted) (wrong_second (main_factors (product_view l.product)))
