use Rattle.std.proofs.Common.{drop}
use Rattle.cap_rules.specs.Attempts.{each}
use Rattle.cap_rules.specs.Making.{determined_slot, env_at}
use Rattle.cap_rules_steps.proofs.Walking.{LeadsBehind}
use Rattle.cap_take_create.proofs.created.slot_values.Given as goal

abbrev pub invariant-loop-slot : goal.invariant-loop-slot
invariant-loop-slot l = LeadsBehind l.values.items (each (determined_slot (env_at l.state l.env)) (drop l.slot-index l.slots)) (each (determined_slot (env_at l.state l.env)) l.slots)
