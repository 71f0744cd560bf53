use Rattle.std.proofs.Common.{rules, ◌∙◌}
use Rattle.std.proofs.lemmas.Int.{to_z-of_z}
use mir.Val.{SFits}
use mir.Syntax.{w128}
use Rattle.cap_lin.proofs.term.combined.Goals as goal

pub returns-in-Some : goal.returns-in-Some
returns-in-Some c =
    let u : SFits w128 c.in-Some.number = search rules in
    let x = to_z-of_z _ _ c.ranges.a in
    let y = to_z-of_z _ _ c.ranges.left in
    let z = to_z-of_z _ _ c.ranges.b in
    let w = to_z-of_z _ _ c.ranges.right in
    let n = rw (x, y, z, w) at c.in-Some.ensures.0 in
    let v = rw (x, y, z, w) at c.in-Some.ensures.1 in
    (n, to_z-of_z _ _ u ∙ v)

pub returns-in-None : goal.returns-in-None
returns-in-None c =
    let x = to_z-of_z _ _ c.ranges.a in
    let y = to_z-of_z _ _ c.ranges.left in
    let z = to_z-of_z _ _ c.ranges.b in
    let w = to_z-of_z _ _ c.ranges.right in
    rw (x, y, z, w) at c.long_combined.ensures
