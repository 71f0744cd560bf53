use Rattle.std.proofs.Common.{◌≡◌, ◌++◌, drop}
use Rattle.cap_take_holdings.specs.Seen.{slots_view}
use Rattle.cap_take_facts.proofs.matched.push_slots.Given as goal

abbrev pub invariant-loop-slot : goal.invariant-loop-slot
invariant-loop-slot l = slots_view l.slots.items ++ drop l.slot-index l.more ≡ slots_view l.fn.slots.items ++ l.more
