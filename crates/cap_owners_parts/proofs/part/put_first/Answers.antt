use Rattle.std.proofs.Common.{◌∙◌, sym}
use mir.Syntax.{w128}
use Rattle.std.proofs.lemmas.Int.{to_z-of_z}
use Rattle.cap_owners_parts.proofs.Maps.{first_put, first_kept}
use Rattle.cap_owners_parts.proofs.part.put_first.Goals as goal

pub returns-then-contains_key : goal.returns-then-contains_key
returns-then-contains_key c =
    let h = rw (to_z-of_z w128 _ c.ranges.address) at c.contains_key.ensures in
    λ es e. first_kept c.args.cells.now es c.args.address c.args.value (sym h ∙ c.if-contains_key.true) e

pub returns : goal.returns
returns c =
    let h = rw (to_z-of_z w128 _ c.ranges.address) at c.contains_key.ensures in
    let u = rw (to_z-of_z w128 _ c.ranges.address, to_z-of_z w128 _ c.ranges.value) at c.in_ok-insert.ensures.updates in
    λ es e. first_put c.args.cells.now c.insert.new.self es c.args.address c.args.value (sym h ∙ c.if-contains_key.false) u e
