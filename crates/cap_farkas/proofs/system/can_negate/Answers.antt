use Rattle.std.proofs.Common.{rules, ◌<◌, ◌≤◌, length, get_or, arith, subst, sym, FitsSigned}
use Rattle.std.proofs.lemmas.Int.{to_z-of_z}
use mir.Val.{SFits}
use mir.Syntax.{w128}
use Rattle.cap_lin.proofs.Merge.{no_part}
use Rattle.cap_lin.proofs.Multiples.{wide_at, fits_at, narrow}
use Rattle.cap_farkas.proofs.Named.{refused, accepted}
use Rattle.cap_farkas.proofs.Sides.{minus-one}
use Rattle.cap_farkas.proofs.system.can_negate.Goals as goal

pub returns-in-None : goal.returns-in-None
returns-in-None c =
    let h : c.loop-part.part-index < length c.args.parts.now = omega arith in
    let f : SFits w128 (get_or c.args.parts.now c.loop-part.part-index no_part).1 = search rules in
    let n = c.in-None.ensures in
    refused _ (wide_at _ _ _ _ h (λ g. n (rw (to_z-of_z _ _ f) (subst (FitsSigned w128) (minus-one _) g))) c.loop-part.invariant)

pub loop-part-preserved : goal.loop-part-preserved
loop-part-preserved c =
    let h : c.loop-part.part-index < length c.args.parts.now = omega arith in
    let f : SFits w128 (get_or c.args.parts.now c.loop-part.part-index no_part).1 = search rules in
    let n = rw (to_z-of_z _ _ f) at c.in-Some.ensures.0 in
    fits_at _ _ _ _ h (subst (FitsSigned w128) (sym (minus-one _)) n) c.loop-part.invariant

pub returns : goal.returns
returns c =
    let h : length c.args.parts.now ≤ c.loop-part.part-index = omega arith in
    accepted _ (narrow _ _ _ _ h c.loop-part.invariant)
