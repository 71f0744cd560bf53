use Rattle.std.proofs.Common.{◌≡◌, drop, fold}
use Rattle.cap_parse_tree.specs.Views.{product_view}
use Rattle.cap_resolve_terms.proofs.Rests.{factors_view}
use Rattle.cap_resolve_spec.specs.Finding.{note}
use Rattle.cap_resolve_spec.specs.Terms.{products_of_names, names_multiplied}
use Rattle.cap_resolve_terms.specs.Views.{noted_view}
use Rattle.cap_resolve_terms.proofs.leaves.note_names_multiplied.Given as goal

abbrev pub invariant-loop-times : goal.invariant-loop-times
invariant-loop-times l =
    fold note (noted_view l.noted) (products_of_names l.earlier (factors_view (drop l.times-index l.times-items)))
    ≡ fold note (noted_view l.fn.noted) (names_multiplied (product_view l.product))
