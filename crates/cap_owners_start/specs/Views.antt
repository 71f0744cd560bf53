-- By what the precondition of a function is met, and what contracts see of a meeting.
use Rattle.std.specs.Prelude.{ℤ, Bool, true, false, List, option_map, Option, Some, None}
use Rattle.std.specs.FinMap.{get, remove}
use Rattle.cap_lin.specs.Linear.{Linear}
use Rattle.cap_prog.specs.declared.assertion.Slot.{Slot}
use Rattle.cap_prog.specs.Program.{PlainFunction}
use Rattle.cap_goal_spec.specs.Environments.{reading}
use Rattle.cap_machine.specs.Machine.{Heap}
use Rattle.cap_owners_spec.specs.Traced.{Traced, traced, ◌>>=◌}
use Rattle.cap_owners_spec.specs.Track.{Fill}
use Rattle.cap_owners_spec.specs.Start.{Meeting, first_meeting, known_number, meets_all, meets_cell, meets_slot}

abbrev pub requires_met : PlainFunction → List ℤ → Heap → Traced (Option Fill)
requires_met f args heap = do
  m ← meets_all f.requires (first_meeting f args heap)
  traced (option_map (λ x. x.fill) m)

-- what was met, if it was
abbrev pub outcome : Meeting → Bool → Option Meeting
outcome m true = Some m
outcome m false = None

abbrev pub named : Meeting → Option Meeting
named m = Some m

-- a cell at an address, with this content
abbrev pub cell_met : Linear → Slot → Meeting → Traced (Option Meeting)
cell_met a x m = do
  n ← known_number m a
  meets_cell n (get m.heap n)
      (λ z. meets_slot (reading m.env x) z (record m { heap = remove m.heap n }))
