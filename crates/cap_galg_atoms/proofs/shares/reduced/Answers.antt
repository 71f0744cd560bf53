use Rattle.std.proofs.Common.{arith, refl, ap, sym}
use Rattle.cap_galg_spec.specs.declared.fraction.Fraction.{Fraction}
use Rattle.cap_galg_spec.specs.Laws.Fractions.{divisor-positive, lowest-by}
use Rattle.cap_galg_atoms.proofs.shares.reduced.Goals as goal

pub nonzero_div-num : goal.nonzero_div-num
nonzero_div-num c = divisor-positive c.args.num c.args.den _ c.requires.positive c.common_divisor-divisor.ensures

pub nonzero_div-den : goal.nonzero_div-den
nonzero_div-den c = divisor-positive c.args.num c.args.den _ c.requires.positive c.common_divisor-divisor.ensures

pub returns-then-den : goal.returns-then-den
returns-then-den c =
    let e = ap (λ (f : Fraction). f.den) (lowest-by c.args.num c.args.den _ c.common_divisor-divisor.ensures) in
    (refl, omega (arith, e))

pub returns : goal.returns
returns c =
    let e = lowest-by c.args.num c.args.den _ c.common_divisor-divisor.ensures in
    (sym e, omega (arith, ap (λ (f : Fraction). f.den) e))
