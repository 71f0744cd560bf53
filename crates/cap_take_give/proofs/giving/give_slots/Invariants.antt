use Rattle.std.proofs.Common.{drop}
use Rattle.cap_rules.specs.Giving.{give_slots}
use Rattle.cap_take_give.proofs.Slots.{LeadsGiven}
use Rattle.cap_take_give.proofs.giving.give_slots.Given as goal

abbrev pub invariant-loop-slot : goal.invariant-loop-slot
invariant-loop-slot l = LeadsGiven l.terms.items (give_slots l.state l.env (drop l.slot-index l.slots)) (give_slots l.fn.state l.env l.slots)
