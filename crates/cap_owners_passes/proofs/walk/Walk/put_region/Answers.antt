use Rattle.std.proofs.Common.{arith, ◌≤◌, length}
use Rattle.std.proofs.lemmas.Int.{ints}
use Rattle.cap_owners_passes.proofs.Regions.{no_fewer}
use Rattle.cap_owners_passes.proofs.walk.Walk.put_region.Goals as goal

pub invariant_of-self : goal.invariant_of-self
invariant_of-self c =
    let h : length c.self.inside.regions ≤ length c.put.new.self = no_fewer c.put.result c.args.region c.self.inside.regions c.put.new.self c.put.ensures.put c.put.ensures.failed in
    omega (arith, ints)
