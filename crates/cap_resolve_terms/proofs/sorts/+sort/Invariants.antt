use Rattle.std.proofs.Common.{◌≡◌, drop}
use Rattle.cap_parse_tree.specs.Views.{product_view}
use Rattle.cap_resolve_terms.proofs.Rests.{factors_view}
use Rattle.cap_resolve_spec.specs.Terms.{factors_sort, product_sort}
use Rattle.cap_resolve_terms.proofs.sorts.+sort.Given as goal

abbrev pub invariant-product_sort-loop-times : goal.invariant-product_sort-loop-times
invariant-product_sort-loop-times l =
    factors_sort l.scope (factors_view (drop l.times-index l.times-items)) ≡ product_sort l.scope (product_view l.product)
