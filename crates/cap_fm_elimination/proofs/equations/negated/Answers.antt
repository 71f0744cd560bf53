use Rattle.std.proofs.Common.{◌≡◌, ℤ, negsuc, ◌*ℤ◌, neg_ℤ, rules, ◌∙◌, refl, sym, subst, arith}
use Rattle.std.proofs.lemmas.Int.{to_z-of_z, ints}
use mir.Val.{SFits}
use mir.Syntax.{w128}
use Rattle.cap_lin.proofs.Results.{product_is-wide, product_is-narrow}
use Rattle.cap_fm_elimination.proofs.equations.negated.Goals as goal

minus_one : (n : ℤ) → negsuc 0 *ℤ n ≡ neg_ℤ n
minus_one n = omega (arith, ints)

pub returns-in-Some : goal.returns-in-Some
returns-in-Some c =
    let e = to_z-of_z _ _ c.ranges.number in
    let u : SFits w128 c.in-Some.negative = search rules in
    (product_is-narrow _ _ _ _ refl e (subst (SFits w128) (sym (minus_one _)) c.in-Some.ensures.0), to_z-of_z _ _ u ∙ (rw e at c.in-Some.ensures.1) ∙ sym (minus_one _))

pub returns-in-None : goal.returns-in-None
returns-in-None c =
    let e = to_z-of_z _ _ c.ranges.number in
    product_is-wide _ _ _ _ refl e (λ f. c.in-None.ensures (subst (SFits w128) (minus_one _) f))
