use Rattle.std.proofs.Common.{◌∙◌, ap}
use Rattle.std.specs.FinMap.{remove}
use mir.Syntax.{w128}
use Rattle.std.proofs.lemmas.Int.{to_z-of_z}
use Rattle.cap_owners_start.proofs.Cutting.{tree_cut}
use Rattle.cap_owners_start.proofs.cells.Cells.remove.Goals as goal

pub returns : goal.returns
returns c =
    let u = rw (to_z-of_z w128 _ c.ranges.address) at c.remove.ensures.updates in
    tree_cut c.self.inside.cells c.remove.new.self c.args.address u ∙ ap (λ h. remove h c.args.address) c.self.view_is
