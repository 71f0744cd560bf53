use Rattle.std.proofs.Common.{rules, ◌∙◌}
use Rattle.std.proofs.lemmas.Int.{to_z-of_z}
use mir.Val.{SFits}
use mir.Syntax.{w128}
use Rattle.cap_owners_values.proofs.Sums.{product_there, product_past}
use Rattle.cap_owners_values.proofs.values.product.Goals as goal

pub returns-in-Some : goal.returns-in-Some
returns-in-Some c =
    let u : SFits w128 c.in-Some.product = search rules in
    product_there _ _ _ _ _ (to_z-of_z _ _ c.ranges.a) (to_z-of_z _ _ c.ranges.b) c.in-Some.ensures.0 (to_z-of_z _ _ u ∙ c.in-Some.ensures.1)

pub returns-in-None : goal.returns-in-None
returns-in-None c = product_past _ _ _ _ (to_z-of_z _ _ c.ranges.a) (to_z-of_z _ _ c.ranges.b) c.in-None.ensures
