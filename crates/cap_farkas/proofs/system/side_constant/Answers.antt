use Rattle.std.proofs.Common.{rules, ◌∙◌}
use Rattle.std.proofs.lemmas.Int.{to_z-of_z}
use mir.Val.{SFits}
use mir.Syntax.{w128}
use Rattle.cap_farkas.proofs.Sides.{no_negative, negative_first}
use Rattle.cap_farkas.proofs.system.side_constant.Goals as goal

pub returns-in-None : goal.returns-in-None
returns-in-None c =
    let f : SFits w128 c.constant_part-constant.result = search rules in
    rw c.in-Above.is (no_negative _ _ _ (to_z-of_z _ _ f ∙ c.constant_part-constant.ensures) c.in-None.ensures)

pub returns-in-Some : goal.returns-in-Some
returns-in-Some c =
    let f : SFits w128 c.constant_part-constant.result = search rules in
    let g : SFits w128 c.in-Some.constant = search rules in
    let h = c.in-Some.ensures in
    rw c.in-Above.is (negative_first _ _ _ _ _ (to_z-of_z _ _ f ∙ c.constant_part-constant.ensures) h.0 (to_z-of_z _ _ g ∙ h.1) c.below_constant-in-Some.ensures)
