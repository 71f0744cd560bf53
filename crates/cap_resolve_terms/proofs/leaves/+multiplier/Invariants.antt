use Rattle.std.proofs.Common.{◌≡◌, ◌&&◌, drop}
use Rattle.std.specs.List.{list_all}
use Rattle.cap_parse_tree.specs.Views.{product_view, term_view}
use Rattle.cap_resolve_terms.proofs.Rests.{factors_view, products_view}
use Rattle.cap_resolve_spec.specs.Parts.{is_number, product_leaves, factors_leaves, term_leaves, products_leaves}
use Rattle.cap_resolve_terms.proofs.leaves.+multiplier.Given as goal

abbrev pub invariant-is_number_term-loop-addend : goal.invariant-is_number_term-loop-addend
invariant-is_number_term-loop-addend l =
    (l.all && list_all is_number (products_leaves (products_view (drop l.addend-index l.addend-items)))) ≡ list_all is_number (term_leaves (term_view l.term))

abbrev pub invariant-is_product_of_numbers-loop-times : goal.invariant-is_product_of_numbers-loop-times
invariant-is_product_of_numbers-loop-times l =
    (l.all && list_all is_number (factors_leaves (factors_view (drop l.times-index l.times-items)))) ≡ list_all is_number (product_leaves (product_view l.product))
