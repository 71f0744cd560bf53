use Rattle.std.proofs.Common.{◌≡◌, drop}
use Rattle.cap_parse_tree.specs.Views.{product_view, term_view}
use Rattle.cap_resolve_parts.proofs.Rests.{factors_view, products_view}
use Rattle.cap_resolve_parts.specs.Views.{words_view, with_words}
use Rattle.cap_resolve_spec.specs.Parts.{product_leaves, factors_leaves, term_leaves, products_leaves}
use Rattle.cap_resolve_parts.proofs.terms.+words.Given as goal

abbrev pub invariant-push_product_words-loop-times : goal.invariant-push_product_words-loop-times
invariant-push_product_words-loop-times l =
    with_words (words_view l.words.items) (factors_leaves (factors_view (drop l.times-index l.times-items)))
    ≡ with_words (words_view l.fn.words.items) (product_leaves (product_view l.product))

abbrev pub invariant-push_words-loop-addend : goal.invariant-push_words-loop-addend
invariant-push_words-loop-addend l =
    with_words (words_view l.words.items) (products_leaves (products_view (drop l.addend-index l.addend-items)))
    ≡ with_words (words_view l.fn.words.items) (term_leaves (term_view l.term))
