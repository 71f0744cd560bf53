use Rattle.std.proofs.Common.{◌∙◌, ◌++◌, ◌+◌, drop, ap, sym}
use Rattle.cap_parse_tree.specs.declared.term.Times.{out-Times}
use Rattle.cap_parse_tree.specs.declared.term.Product.{out-Product}
use Rattle.cap_parse_tree.specs.declared.term.Addend.{out-Addend}
use Rattle.cap_parse_tree.specs.declared.term.Term.{out-Term}
use Rattle.cap_resolve_spec.specs.Parts.{factor_leaves, factors_leaves, product_leaves, products_leaves, term_leaves}
use Rattle.cap_parse_tree.specs.Views.{factor_view, product_view}
use Rattle.cap_resolve_terms.proofs.Rests.{factors_view, products_view}
use Rattle.cap_resolve_forms.proofs.Leaves.{names_of, names_after}
use Rattle.cap_resolve_forms.proofs.Trees.{view-Product, view-Term, factors-rest, products-rest}
use Rattle.cap_resolve_forms.proofs.names.+pushing.Goals as goal

pub push_product_names-loop-times-init : goal.push_product_names-loop-times-init
push_product_names-loop-times-init t c =
    ap (λ ts. c.push_factor_names.new.names ++ names_of (factors_leaves (factors_view ts))) c.deref-times-items.ensures.value
    ∙ (names_after c.args.names.now c.push_factor_names.new.names
    (factor_leaves (factor_view (out-Product c.args.product.now).first)) (factors_leaves (factors_view (out-Product c.args.product.now).more.items)) c.in_ok-push_factor_names.ensures
    ∙ ap (λ m. c.args.names.now ++ names_of (product_leaves m)) (sym (view-Product c.args.product.now)))

pub push_product_names-loop-times-preserved : goal.push_product_names-loop-times-preserved
push_product_names-loop-times-preserved t c =
    names_after c.loop-times.names c.push_factor_names-in-loop-times.new.names
    (factor_leaves (factor_view (out-Times c.times-item.result).factor)) (factors_leaves (factors_view (drop (c.loop-times.times-index + 1) c.deref-times-items.result.now))) c.in_ok-push_factor_names-2.ensures
    ∙ (ap (λ r. c.loop-times.names ++ names_of (factors_leaves r)) (sym (factors-rest c.deref-times-items.result.now c.loop-times.times-index c.times-item.result c.loop-times-test.true c.times-item.is))
    ∙ c.loop-times.invariant)

pub push_names-loop-addend-init : goal.push_names-loop-addend-init
push_names-loop-addend-init t c =
    ap (λ ts. c.push_product_names.new.names ++ names_of (products_leaves (products_view ts))) c.deref-addend-items.ensures.value
    ∙ (names_after c.args.names.now c.push_product_names.new.names
    (product_leaves (product_view (out-Term c.args.term.now).first)) (products_leaves (products_view (out-Term c.args.term.now).more.items)) c.in_ok-push_product_names.ensures
    ∙ ap (λ m. c.args.names.now ++ names_of (term_leaves m)) (sym (view-Term c.args.term.now)))

pub push_names-loop-addend-preserved : goal.push_names-loop-addend-preserved
push_names-loop-addend-preserved t c =
    names_after c.loop-addend.names c.push_product_names-in-loop-addend.new.names
    (product_leaves (product_view (out-Addend c.addend-item.result).product)) (products_leaves (products_view (drop (c.loop-addend.addend-index + 1) c.deref-addend-items.result.now))) c.in_ok-push_product_names-2.ensures
    ∙ (ap (λ r. c.loop-addend.names ++ names_of (products_leaves r)) (sym (products-rest c.deref-addend-items.result.now c.loop-addend.addend-index c.addend-item.result c.loop-addend-test.true c.addend-item.is))
    ∙ c.loop-addend.invariant)
