use Rattle.std.proofs.Common.{◌∙◌, ap}
use Rattle.std.specs.FinMap.{insert}
use mir.Syntax.{w128}
use Rattle.std.proofs.lemmas.Int.{to_z-of_z}
use Rattle.cap_owners_parts.proofs.Maps.{tree_put}
use Rattle.cap_owners_start.proofs.cells.Cells.put.Goals as goal

pub returns : goal.returns
returns c =
    let u = rw (to_z-of_z w128 _ c.ranges.address, to_z-of_z w128 _ c.ranges.value) at c.in_ok-insert.ensures.updates in
    tree_put c.self.inside.cells c.insert.new.self c.args.address c.args.value u ∙ ap (λ h. insert h c.args.address c.args.value) c.self.view_is
