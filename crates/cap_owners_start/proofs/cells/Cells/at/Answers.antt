use Rattle.std.proofs.Common.{◌∙◌, ap, sym}
use Rattle.std.specs.FinMap.{get}
use mir.Syntax.{w128}
use Rattle.std.proofs.lemmas.Int.{to_z-of_z}
use Rattle.cap_owners_parts.proofs.Maps.{tree_get}
use Rattle.cap_owners_start.proofs.cells.Cells.at.Goals as goal

pub returns : goal.returns
returns c =
    let v = rw (to_z-of_z w128 _ c.ranges.address) at c.get.ensures.value in
    c.copied.ensures ∙ (v ∙ (sym (tree_get c.self.inside.cells c.args.address) ∙ ap (λ h. get h c.args.address) c.self.view_is))
