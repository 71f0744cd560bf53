use Rattle.std.proofs.Common.{◌∙◌, ◌≤◌, length, ap, refl, rules}
use Rattle.std.proofs.lemmas.Int.{to_z-of_z}
use mir.Val.{SFits}
use mir.Syntax.{w128}
use Rattle.std.proofs.lemmas.Result.{err_from_is_err_and, MatchResult-weaker}
use Rattle.cap_lin.specs.Linear.{number, variable}
use Rattle.cap_lin.proofs.Results.{first_wide-nil, explains_first}
use Rattle.cap_resolve_spec.specs.Names.{variable_of}
use Rattle.cap_resolve_terms.proofs.Numbers.{variable_within}
use Rattle.cap_resolve_terms.proofs.Rests.{factors_view, products_view}
use Rattle.cap_resolve_forms.proofs.Trees.{view-Number, view-WholeShare, view-Name, view-Product, view-Term, factors-rest, products-rest, factors-done, products-done}
use Rattle.cap_resolve_forms.proofs.Steps.{factor-stops, times-stops, times-steps, times-form, product-stops, sum-stops, sum-steps, sum-form, product-begins, product-opens, opened-stops, term-begins, term-opens, factors-narrow, factors-made, products-narrow, products-made}
use Rattle.cap_resolve_forms.proofs.forms.+forms.Goals as goal

pub factor_form-returns-in-Number : goal.factor_form-returns-in-Number
factor_form-returns-in-Number g t c =
    let f : SFits w128 c.from.result = search rules in
    rw (c.in-Number.is, view-Number c.in-Number.literal) (first_wide-nil, c.constant.ensures ∙ ap number (to_z-of_z _ _ f ∙ c.from.ensures))

pub factor_form-returns-in-WholeShare : goal.factor_form-returns-in-WholeShare
factor_form-returns-in-WholeShare g t c =
    rw (c.in-WholeShare.is, view-WholeShare c.in-WholeShare.field-0) (first_wide-nil, c.constant-in-WholeShare.ensures)

pub factor_form-returns-in-Name : goal.factor_form-returns-in-Name
factor_form-returns-in-Name g t c =
    rw (c.in-Name.is, view-Name c.in-Name.word) (MatchResult-weaker c.variable.result c.variable.ensures (λ x h. (first_wide-nil, h ∙ ap variable (c.number.ensures ∙ ap (variable_of c.args.names.now) c.as_bytes.ensures))) (λ e h. rw h tt))

pub factor_form-variable-requires : goal.factor_form-variable-requires
factor_form-variable-requires g t c =
    let w : c.number.result ≤ length c.args.names.now = rw c.number.ensures (variable_within c.args.names.now c.as_bytes.result.now) in
    c.requires c.number.result w

pub product_form-returns-in_err-read : goal.product_form-returns-in_err-read
product_form-returns-in_err-read g t c =
    let p = err_from_is_err_and c.from_residual.result c.from_residual.ensures.1 in
    rw (p.1, p.2, view-Product c.args.product.now) (explains_first _ _ _ c.in_err-read.ensures)

pub product_form-loop-next-init : goal.product_form-loop-next-init
product_form-loop-next-init g t c =
    let r = ap factors_view c.deref-next-items.ensures.value in
    record {
      steps = product-begins _ _ _ _ _ (view-Product c.args.product.now) r _ c.in_ok-read.ensures.0 c.in_ok-read.ensures.1;
      form = product-opens _ _ _ _ _ (view-Product c.args.product.now) r _ c.in_ok-read.ensures.1;
    }

pub product_form-returns-in_err-factor : goal.product_form-returns-in_err-factor
product_form-returns-in_err-factor g t c =
    let p = err_from_is_err_and c.from_residual-in_err-factor.result c.from_residual-in_err-factor.ensures.1 in
    rw (p.1, p.2) (factor-stops _ _ _ _ _ _ (factors-rest c.deref-next-items.result.now c.loop-next.next-index c.next-item.result c.loop-next-test.true c.next-item.is) _ _ c.loop-next.invariant.steps c.in_err-factor.ensures)

pub product_form-returns-in_err-read-2 : goal.product_form-returns-in_err-read-2
product_form-returns-in_err-read-2 g t c =
    let p = err_from_is_err_and c.from_residual-in_err-read-2.result c.from_residual-in_err-read-2.ensures.1 in
    rw (p.1, p.2) (times-stops _ _ _ _ _ _ (factors-rest c.deref-next-items.result.now c.loop-next.next-index c.next-item.result c.loop-next-test.true c.next-item.is) _ _ _ c.loop-next.invariant.steps c.in_ok-factor.ensures.0 c.in_ok-factor.ensures.1 c.in_err-read-2.ensures)

pub product_form-loop-next-preserved : goal.product_form-loop-next-preserved
product_form-loop-next-preserved g t c =
    let r = factors-rest c.deref-next-items.result.now c.loop-next.next-index c.next-item.result c.loop-next-test.true c.next-item.is in
    record {
      steps = times-steps _ _ _ _ _ _ r _ _ _ c.loop-next.invariant.steps c.in_ok-factor.ensures.0 c.in_ok-factor.ensures.1 c.in_ok-read-2.ensures.0 c.in_ok-read-2.ensures.1;
      form = times-form _ _ _ _ _ _ r _ _ _ c.loop-next.invariant.form c.in_ok-factor.ensures.1 c.in_ok-read-2.ensures.1;
    }

pub product_form-returns : goal.product_form-returns
product_form-returns g t c =
    let d = factors-done c.deref-next-items.result.now c.loop-next.next-index c.loop-next-test.false in
    (factors-narrow _ _ _ _ d c.loop-next.invariant.steps, factors-made _ _ _ _ d c.loop-next.invariant.form)

pub form-returns-in_err-first : goal.form-returns-in_err-first
form-returns-in_err-first g t c =
    let p = err_from_is_err_and c.from_residual.result c.from_residual.ensures.1 in
    rw (p.1, p.2, view-Term c.args.term.now) (explains_first _ _ _ c.in_err-first.ensures)

pub form-returns-in_err-read : goal.form-returns-in_err-read
form-returns-in_err-read g t c =
    let p = err_from_is_err_and c.from_residual-in_err-read.result c.from_residual-in_err-read.ensures.1 in
    rw (p.1, p.2) (opened-stops _ _ _ _ _ _ (view-Term c.args.term.now) refl _ _ c.in_ok-first.ensures.0 c.in_ok-first.ensures.1 c.in_err-read.ensures)

pub form-loop-addend-init : goal.form-loop-addend-init
form-loop-addend-init g t c =
    let r = ap products_view c.deref-addend-items.ensures.value in
    record {
      steps = term-begins _ _ _ _ _ _ (view-Term c.args.term.now) r _ _ c.in_ok-first.ensures.0 c.in_ok-first.ensures.1 c.in_ok-read.ensures.0 c.in_ok-read.ensures.1;
      form = term-opens _ _ _ _ _ _ (view-Term c.args.term.now) r _ _ c.in_ok-first.ensures.1 c.in_ok-read.ensures.1;
    }

pub form-returns-in_err-product : goal.form-returns-in_err-product
form-returns-in_err-product g t c =
    let p = err_from_is_err_and c.from_residual-in_err-product.result c.from_residual-in_err-product.ensures.1 in
    rw (p.1, p.2) (product-stops _ _ _ _ _ _ _ (products-rest c.deref-addend-items.result.now c.loop-addend.addend-index c.addend-item.result c.loop-addend-test.true c.addend-item.is) _ _ c.loop-addend.invariant.steps c.in_err-product.ensures)

pub form-returns-in_err-read-2 : goal.form-returns-in_err-read-2
form-returns-in_err-read-2 g t c =
    let p = err_from_is_err_and c.from_residual-in_err-read-2.result c.from_residual-in_err-read-2.ensures.1 in
    rw (p.1, p.2) (sum-stops _ _ _ _ _ _ _ (products-rest c.deref-addend-items.result.now c.loop-addend.addend-index c.addend-item.result c.loop-addend-test.true c.addend-item.is) _ _ _ c.loop-addend.invariant.steps c.in_ok-product.ensures.0 c.in_ok-product.ensures.1 c.in_err-read-2.ensures)

pub form-loop-addend-preserved : goal.form-loop-addend-preserved
form-loop-addend-preserved g t c =
    let r = products-rest c.deref-addend-items.result.now c.loop-addend.addend-index c.addend-item.result c.loop-addend-test.true c.addend-item.is in
    record {
      steps = sum-steps _ _ _ _ _ _ _ r _ _ _ c.loop-addend.invariant.steps c.in_ok-product.ensures.0 c.in_ok-product.ensures.1 c.in_ok-read-2.ensures.0 c.in_ok-read-2.ensures.1;
      form = sum-form _ _ _ _ _ _ _ r _ _ _ c.loop-addend.invariant.form c.in_ok-product.ensures.1 c.in_ok-read-2.ensures.1;
    }

pub form-returns : goal.form-returns
form-returns g t c =
    let d = products-done c.deref-addend-items.result.now c.loop-addend.addend-index c.loop-addend-test.false in
    (products-narrow _ _ _ _ d c.loop-addend.invariant.steps, products-made _ _ _ _ d c.loop-addend.invariant.form)
