use Rattle.std.proofs.Common.{rules}
use Rattle.std.specs.Prelude.{None}
use mir.Val.{SFits}
use mir.Syntax.{w128}
use Rattle.std.proofs.lemmas.Int.{to_z-of_z}
use Rattle.cap_gen_schedules.proofs.Addresses.{free-behind, past-top}
use Rattle.cap_gen_schedules.proofs.drawing.free_address.Goals as goal

pub returns-in-None : goal.returns-in-None
returns-in-None c p = free-behind _ None (c.in-None.ensures p)

pub returns-in-Some : goal.returns-in-Some
returns-in-Some c p =
    let f : SFits w128 c.in-Some.top = search rules in
    let s = rw (to_z-of_z w128 _ f) at c.checked_add.ensures in
    past-top _ c.in-Some.top _ f s (c.in-Some.ensures p)
