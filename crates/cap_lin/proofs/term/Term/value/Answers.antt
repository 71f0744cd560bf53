use Rattle.std.proofs.Common.{rules, ◌<◌, ◌≤◌, length, get_or, pos, arith, refl, ap, ◌∙◌}
use Rattle.std.proofs.lemmas.Int.{to_z-of_z}
use Rattle.std.proofs.lemmas.Result.{err_from_is_err_and}
use mir.Val.{SFits}
use mir.Syntax.{w128}
use Rattle.cap_lin.specs.Linear.{Linear}
use Rattle.cap_lin.specs.Values.{number_at}
use Rattle.cap_lin.proofs.Merge.{no_part}
use Rattle.cap_lin.proofs.Totals.{starts, stops_at_product, stops_at_sum, goes_on, adds, narrow, done}
use Rattle.cap_lin.proofs.term.Term.value.Goals as goal

pub loop-part-init : goal.loop-part-init
loop-part-init c =
    let f : SFits w128 c.self.inside.constant = search rules in
    let e = to_z-of_z _ _ f ∙ ap (λ (l : Linear). l.constant) c.self.view_is in
    let x = c.as_slice-parts.ensures ∙ ap (λ (l : Linear). l.parts) c.self.view_is in
    record { steps = rw (x, e) refl; total = rw (x, e) (starts _ _) }

pub returns-in_err-product-clause-exact : goal.returns-in_err-product-clause-exact
returns-in_err-product-clause-exact c =
    let h : c.loop-part.part-index < length c.as_slice-parts.result.now = omega arith in
    let f : SFits w128 (get_or c.as_slice-parts.result.now c.loop-part.part-index no_part).1 = search rules in
    let g : SFits w128 (get_or c.args.values.now (get_or c.as_slice-parts.result.now c.loop-part.part-index no_part).0 (pos 0)) = search rules in
    let p = err_from_is_err_and c.from_residual.result c.from_residual.ensures.1 in
    rw (p.1, p.2) (stops_at_product (number_at c.args.values.now) _ _ _ _ _ _ _ h (to_z-of_z _ _ f) (to_z-of_z _ _ g) c.in_err-product.ensures.exact c.loop-part.invariant.steps)

pub returns-in_err-total-clause-exact : goal.returns-in_err-total-clause-exact
returns-in_err-total-clause-exact c =
    let h : c.loop-part.part-index < length c.as_slice-parts.result.now = omega arith in
    let f : SFits w128 (get_or c.as_slice-parts.result.now c.loop-part.part-index no_part).1 = search rules in
    let g : SFits w128 (get_or c.args.values.now (get_or c.as_slice-parts.result.now c.loop-part.part-index no_part).0 (pos 0)) = search rules in
    let u : SFits w128 c.in_ok-product.product = search rules in
    let a = c.in_ok-product.ensures.exact in
    let p = err_from_is_err_and c.from_residual-in_err-total.result c.from_residual-in_err-total.ensures.1 in
    rw (p.1, p.2) (stops_at_sum (number_at c.args.values.now) _ _ _ _ _ _ _ _ _ h (to_z-of_z _ _ f) (to_z-of_z _ _ g) a.0 (to_z-of_z _ _ u ∙ a.1) refl c.in_err-total.ensures.exact c.loop-part.invariant.steps)

pub loop-part-preserved : goal.loop-part-preserved
loop-part-preserved c =
    let h : c.loop-part.part-index < length c.as_slice-parts.result.now = omega arith in
    let f : SFits w128 (get_or c.as_slice-parts.result.now c.loop-part.part-index no_part).1 = search rules in
    let g : SFits w128 (get_or c.args.values.now (get_or c.as_slice-parts.result.now c.loop-part.part-index no_part).0 (pos 0)) = search rules in
    let u : SFits w128 c.in_ok-product.product = search rules in
    let v : SFits w128 c.in_ok-total.total = search rules in
    let a = c.in_ok-product.ensures.exact in
    let b = c.in_ok-total.ensures.exact in
    let e = to_z-of_z _ _ f in
    let d = to_z-of_z _ _ g in
    let q = to_z-of_z _ _ u ∙ a.1 in
    let r = to_z-of_z _ _ v ∙ b.1 in
    record {
      steps = goes_on (number_at c.args.values.now) _ _ _ _ _ _ _ _ _ h e d a.0 q refl b.0 r c.loop-part.invariant.steps;
      total = adds (number_at c.args.values.now) _ _ _ _ _ _ _ _ _ h e d q refl r c.loop-part.invariant.total;
    }

pub returns-clause-exact : goal.returns-clause-exact
returns-clause-exact c =
    let h : length c.as_slice-parts.result.now ≤ c.loop-part.part-index = omega arith in
    (narrow _ _ _ _ _ h c.loop-part.invariant.steps, done _ _ _ _ _ h c.loop-part.invariant.total)
