use Rattle.std.proofs.Common.{◌≡◌, ◌||◌, drop}
use Rattle.std.specs.List.{list_any}
use Rattle.cap_parse_tree.specs.Views.{product_view, term_view}
use Rattle.cap_resolve_terms.proofs.Rests.{factors_view, products_view}
use Rattle.cap_resolve_spec.specs.Parts.{is_name, product_leaves, factors_leaves, term_leaves, products_leaves}
use Rattle.cap_resolve_terms.proofs.leaves.+names.Given as goal

abbrev pub invariant-product_holds_name-loop-times : goal.invariant-product_holds_name-loop-times
invariant-product_holds_name-loop-times l =
    (l.any || list_any is_name (factors_leaves (factors_view (drop l.times-index l.times-items)))) ≡ list_any is_name (product_leaves (product_view l.product))

abbrev pub invariant-term_holds_name-loop-addend : goal.invariant-term_holds_name-loop-addend
invariant-term_holds_name-loop-addend l =
    (l.any || list_any is_name (products_leaves (products_view (drop l.addend-index l.addend-items)))) ≡ list_any is_name (term_leaves (term_view l.term))
