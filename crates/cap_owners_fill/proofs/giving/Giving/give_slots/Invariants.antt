use Rattle.std.proofs.Common.{◌≡◌, drop}
use Rattle.cap_owners_spec.specs.Filling.{give_slots}
use Rattle.cap_owners_fill.proofs.giving.Giving.give_slots.Given as goal

abbrev pub invariant-loop-slot : goal.invariant-loop-slot
invariant-loop-slot l = give_slots l.names (drop l.slot-index l.slots) l.self ≡ give_slots l.names l.slots l.fn.self
