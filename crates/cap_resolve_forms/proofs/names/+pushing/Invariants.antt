use Rattle.std.proofs.Common.{◌≡◌, ◌++◌, drop}
use Rattle.cap_parse_tree.specs.Views.{product_view, term_view}
use Rattle.cap_resolve_terms.proofs.Rests.{factors_view, products_view}
use Rattle.cap_resolve_spec.specs.Parts.{product_leaves, factors_leaves, term_leaves, products_leaves}
use Rattle.cap_resolve_forms.proofs.Leaves.{names_of}
use Rattle.cap_resolve_forms.proofs.names.+pushing.Given as goal

abbrev pub invariant-push_product_names-loop-times : goal.invariant-push_product_names-loop-times
invariant-push_product_names-loop-times l =
    l.names ++ names_of (factors_leaves (factors_view (drop l.times-index l.times-items)))
    ≡ l.fn.names ++ names_of (product_leaves (product_view l.product))

abbrev pub invariant-push_names-loop-addend : goal.invariant-push_names-loop-addend
invariant-push_names-loop-addend l =
    l.names ++ names_of (products_leaves (products_view (drop l.addend-index l.addend-items)))
    ≡ l.fn.names ++ names_of (term_leaves (term_view l.term))
