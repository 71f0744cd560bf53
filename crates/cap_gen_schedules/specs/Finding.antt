-- What the code tells of a turn, of a schedule, and of schedules one behind the other.
use Rattle.std.specs.Prelude.{◌≡◌, false, List, [], Option, Some, None}
use Rattle.rand_pcg.specs.Lcg.{Lcg}
use Rattle.cap_machine.specs.declared.event.Entry.{Entry}
use Rattle.cap_machine.specs.declared.machine.Machine.{Machine}
use Rattle.cap_machine.specs.Machine.{Configuration}
use Rattle.cap_machine.specs.View.{is_stopped}
use Rattle.cap_replay_schedules.specs.declared.entries.Schedule.{Schedule}
use Rattle.cap_gen_schedules.specs.declared.drawing.Turn.{Turn}
use Rattle.cap_gen_schedules.specs.declared.drawing.Turn.TheVariants.{GoesOn, Faults, Ends}
use Rattle.cap_gen_schedules.specs.Drawn.{Drawn, faulted, ended}

-- what is drawn from where things are behind a turn
abbrev pub drawn_by :
    Turn → (Configuration → List Entry → Lcg → Drawn) → Configuration → List Entry → Lcg → Drawn
drawn_by GoesOn more c es g = more c es g
drawn_by Faults more c es g = faulted es
drawn_by Ends more c es g = ended g

-- no fault has stopped the machine, where the schedule goes on
abbrev pub Continues : Turn → Machine → Type 0
Continues GoesOn m = is_stopped m ≡ false
Continues Faults m = Unit {0}
Continues Ends m = Unit {0}

-- the entries of a schedule that faults, or none and the generator behind it
abbrev pub drawn_view : Option (List Entry) → Lcg → Drawn
drawn_view None g = ended g
drawn_view (Some es) g = faulted es

-- the entries are these; there are no arguments, and the heap is empty
abbrev pub Finds : Option Schedule → Option (List Entry) → Type 0
Finds None found = found ≡ None
Finds (Some s) found =
    (found ≡ Some s.entries.items) × (s.args.items ≡ []) × (s.heap.items ≡ [])
