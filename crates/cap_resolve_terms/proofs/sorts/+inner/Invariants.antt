use Rattle.std.proofs.Common.{◌≡◌, drop, fold}
use Rattle.cap_parse_tree.specs.Views.{product_view, term_view}
use Rattle.cap_resolve_terms.proofs.Rests.{factors_view, products_view}
use Rattle.cap_resolve_spec.specs.Finding.{note}
use Rattle.cap_resolve_spec.specs.Parts.{factors_brackets, products_brackets, product_brackets, term_brackets}
use Rattle.cap_resolve_terms.specs.Brackets.{brackets_findings}
use Rattle.cap_resolve_terms.specs.Views.{noted_view}
use Rattle.cap_resolve_terms.proofs.sorts.+inner.Given as goal

abbrev pub invariant-note_product_brackets-loop-times : goal.invariant-note_product_brackets-loop-times
invariant-note_product_brackets-loop-times l =
    fold note (noted_view l.noted) (brackets_findings l.scope (factors_brackets (factors_view (drop l.times-index l.times-items))))
    ≡ fold note (noted_view l.fn.noted) (brackets_findings l.scope (product_brackets (product_view l.product)))

abbrev pub invariant-note_brackets-loop-addend : goal.invariant-note_brackets-loop-addend
invariant-note_brackets-loop-addend l =
    fold note (noted_view l.noted) (brackets_findings l.scope (products_brackets (products_view (drop l.addend-index l.addend-items))))
    ≡ fold note (noted_view l.fn.noted) (brackets_findings l.scope (term_brackets (term_view l.term)))
