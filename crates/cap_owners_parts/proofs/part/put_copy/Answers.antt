use mir.Syntax.{w128}
use Rattle.std.proofs.lemmas.Int.{to_z-of_z}
use Rattle.cap_owners_parts.specs.Views.{guard_view}
use Rattle.cap_owners_parts.proofs.Maps.{seen_put}
use Rattle.cap_owners_parts.proofs.part.put_copy.Goals as goal

pub returns : goal.returns
returns c =
    let u = rw (to_z-of_z w128 _ c.ranges.region) at c.in_ok-insert.ensures.updates in
    seen_put guard_view c.args.guards.now c.insert.new.self c.args.region c.args.guard u
