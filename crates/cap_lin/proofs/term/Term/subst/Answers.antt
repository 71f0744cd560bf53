use Rattle.std.proofs.Common.{rules, ◌≡◌, pos, arith, ap, sym, ◌∙◌}
use Rattle.std.proofs.lemmas.Int.{ints, to_z-of_z}
use Rattle.std.proofs.lemmas.Result.{err_from_is_err_and, MatchResult-weaker}
use mir.Val.{SFits, to_z, of_z}
use mir.Syntax.{w128}
use Rattle.cap_lin.specs.Linear.{plus}
use Rattle.cap_lin.specs.Steps.{plus_steps}
use Rattle.cap_lin.specs.Exact.{IsExact}
use Rattle.cap_lin.specs.Values.{value}
use Rattle.cap_lin.proofs.Values.{value-replaced}
use Rattle.cap_lin.proofs.Replace.{nothing-wide, replaced-none, wide-in_multiple, wide-in_sum, narrow, replaced-some}
use Rattle.cap_lin.proofs.term.Term.subst.Goals as goal

pub returns-then-coefficient-eq0-clause-exact : goal.returns-then-coefficient-eq0-clause-exact
returns-then-coefficient-eq0-clause-exact c =
    let u : SFits w128 c.coefficient-coefficient.result = search rules in
    let t = c.if-coefficient-eq0.true in
    let k : c.coefficient-coefficient.result ≡ pos 0 = omega (arith, ints) in
    let z = sym c.coefficient-coefficient.ensures.coefficient ∙ k in
    (nothing-wide _ _ _ z, c.in_ok-copy.ensures ∙ sym (replaced-none _ _ _ z))

pub returns-in_err-multiple-clause-exact : goal.returns-in_err-multiple-clause-exact
returns-in_err-multiple-clause-exact c =
    let u : SFits w128 c.coefficient-coefficient.result = search rules in
    let t = c.if-coefficient-eq0.false in
    let e = to_z-of_z _ _ u in
    let n : to_z w128 (of_z w128 c.coefficient-coefficient.result) ≡ pos 0 → ⊥ = omega (arith, ints) in
    let p = err_from_is_err_and c.from_residual-in_err-multiple.result c.from_residual-in_err-multiple.ensures.1 in
    rw (p.1, p.2) (wide-in_multiple _ _ _ _ _ (e ∙ c.coefficient-coefficient.ensures.coefficient) n c.in_err-multiple.ensures.exact)

pub returns-clause-exact : goal.returns-clause-exact
returns-clause-exact c =
    let u : SFits w128 c.coefficient-coefficient.result = search rules in
    let t = c.if-coefficient-eq0.false in
    let q = to_z-of_z _ _ u ∙ c.coefficient-coefficient.ensures.coefficient in
    let n : to_z w128 (of_z w128 c.coefficient-coefficient.result) ≡ pos 0 → ⊥ = omega (arith, ints) in
    let r = c.in_ok-rest.ensures in
    let m = c.in_ok-multiple.ensures.exact in
    let a : IsExact c.add.result (plus_steps c.in_ok-rest.rest c.in_ok-multiple.multiple) (plus c.in_ok-rest.rest c.in_ok-multiple.multiple) = c.add.ensures.exact in
    let b = rw (r, m.1) at a in
    MatchResult-weaker c.add.result b (λ s h. (narrow _ _ _ _ q n m.0 h.0, h.1 ∙ sym (replaced-some _ _ _ _ q n))) (λ e h. wide-in_sum _ _ _ _ e q n m.0 h)

pub returns-then-coefficient-eq0-clause-means : goal.returns-then-coefficient-eq0-clause-means
returns-then-coefficient-eq0-clause-means c =
    let u : SFits w128 c.coefficient-coefficient.result = search rules in
    let t = c.if-coefficient-eq0.true in
    let k : c.coefficient-coefficient.result ≡ pos 0 = omega (arith, ints) in
    let z = sym c.coefficient-coefficient.ensures.coefficient ∙ k in
    λ n. ap (value n) (c.in_ok-copy.ensures ∙ sym (replaced-none _ c.args.by.now _ z)) ∙ value-replaced n c.args.v c.args.by.now c.args.self.now

pub returns-clause-means : goal.returns-clause-means
returns-clause-means c =
    let u : SFits w128 c.coefficient-coefficient.result = search rules in
    let t = c.if-coefficient-eq0.false in
    let q = to_z-of_z _ _ u ∙ c.coefficient-coefficient.ensures.coefficient in
    let n : to_z w128 (of_z w128 c.coefficient-coefficient.result) ≡ pos 0 → ⊥ = omega (arith, ints) in
    let a : IsExact c.add.result (plus_steps c.in_ok-rest.rest c.in_ok-multiple.multiple) (plus c.in_ok-rest.rest c.in_ok-multiple.multiple) = c.add.ensures.exact in
    let b = rw (c.in_ok-rest.ensures, c.in_ok-multiple.ensures.exact.1) at a in
    MatchResult-weaker c.add.result b (λ s h m. ap (value m) (h.1 ∙ sym (replaced-some _ _ _ _ q n)) ∙ value-replaced m c.args.v c.args.by.now c.args.self.now) (λ e h. tt)
