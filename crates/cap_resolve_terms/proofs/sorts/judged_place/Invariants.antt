use Rattle.std.proofs.Common.{◌≡◌, drop, get_or, filter, not}
use Rattle.cap_parse_tree.specs.Views.{product_view}
use Rattle.cap_resolve_terms.proofs.Rests.{factors_view}
use Rattle.cap_resolve_spec.specs.Parts.{more_factors, is_multiplier, first_factor}
use Rattle.cap_resolve_spec.specs.Terms.{main_factors}
use Rattle.cap_resolve_terms.proofs.sorts.judged_place.Given as goal

abbrev pub invariant-loop-times : goal.invariant-loop-times
invariant-loop-times l =
    get_or (filter (λ f. not (is_multiplier f)) (more_factors (factors_view (drop l.times-index l.times-items)))) 0 (first_factor (product_view l.product))
    ≡ get_or (main_factors (product_view l.product)) 0 (first_factor (product_view l.product))
