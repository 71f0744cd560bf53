use Rattle.std.proofs.Common.{rules}
use mir.Val.{SFits}
use mir.Syntax.{w128}
use Rattle.std.proofs.lemmas.Int.{to_z-of_z}
use Rattle.cap_owners_parts.proofs.Maps.{cells_go, cells_end}
use Rattle.cap_owners_parts.proofs.part.copy_cells.Goals as goal

pub loop-address-preserved : goal.loop-address-preserved
loop-address-preserved c =
    let f : SFits w128 c.in-Some.address.now = search rules in
    let g : SFits w128 c.in-Some.value.now = search rules in
    let u = rw (to_z-of_z w128 _ f, to_z-of_z w128 _ g) at c.in_ok-insert.ensures.updates in
    cells_go c.loop-address.copies c.insert.new.self _ _ _ _ _ u c.in-Some.ensures.steps c.loop-address.invariant

pub returns : goal.returns
returns c = cells_end c.loop-address.copies _ c.args.cells.now.entries c.in-None.ensures.steps.0 c.iter-address-items.ensures.ordered c.loop-address.invariant
