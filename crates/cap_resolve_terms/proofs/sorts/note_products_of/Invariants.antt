use Rattle.std.proofs.Common.{◌≡◌, drop, fold, flat_map}
use Rattle.cap_parse_tree.specs.Views.{term_view}
use Rattle.cap_resolve_terms.proofs.Rests.{products_view}
use Rattle.cap_resolve_spec.specs.Finding.{note}
use Rattle.cap_resolve_spec.specs.Parts.{more_products}
use Rattle.cap_resolve_spec.specs.Terms.{product_findings, products_findings}
use Rattle.cap_resolve_terms.specs.Views.{noted_view}
use Rattle.cap_resolve_terms.proofs.sorts.note_products_of.Given as goal

abbrev pub invariant-loop-addend : goal.invariant-loop-addend
invariant-loop-addend l =
    fold note (noted_view l.noted) (flat_map (product_findings l.scope l.wanted) (more_products (products_view (drop l.addend-index l.addend-items))))
    ≡ fold note (noted_view l.fn.noted) (products_findings l.scope l.wanted (term_view l.term))
