use Rattle.std.proofs.Common.{rules, ◌∙◌}
use Rattle.std.proofs.lemmas.Int.{to_z-of_z}
use mir.Val.{SFits}
use mir.Syntax.{w128}
use Rattle.cap_lin.proofs.Results.{sum_is-wide, sum_is-narrow}
use Rattle.cap_resolve_forms.proofs.long.sum.Goals as goal

pub returns-in-Some : goal.returns-in-Some
returns-in-Some c =
    let e = to_z-of_z _ _ c.ranges.a in
    let d = to_z-of_z _ _ c.ranges.b in
    let u : SFits w128 c.in-Some.sum = search rules in
    (sum_is-narrow _ _ _ _ e d c.in-Some.ensures.0, to_z-of_z _ _ u ∙ (rw (e, d) at c.in-Some.ensures.1))

pub returns-in-None : goal.returns-in-None
returns-in-None c = sum_is-wide _ _ _ _ (to_z-of_z _ _ c.ranges.a) (to_z-of_z _ _ c.ranges.b) c.in-None.ensures
