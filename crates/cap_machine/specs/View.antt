-- What is seen of the frames and the machine of the code.
use Rattle.std.specs.Prelude.{◌≡◌, ◌<◌, Bool, true, false, not, ◌&&◌, List, map, reverse, length, slice_get, Option, Some, None, Result, Ok, Err}
use Rattle.std.specs.List.{AllByRecursion}
use Rattle.std.specs.Global.{Vec}
use Rattle.cap_prog.specs.Program.{Block, done, PlainFunction, PlainProgram}
use Rattle.cap_machine.specs.declared.event.Entry.{Entry}
use Rattle.cap_machine.specs.declared.event.Event.{Event}
use Rattle.cap_machine.specs.declared.event.StepError.{StepError}
use Rattle.cap_machine.specs.declared.event.StepError.TheVariants.{NotEnabled, Wide, OutOfMemory}
use Rattle.cap_machine.specs.declared.frame.Frame as code
use Rattle.cap_machine.specs.declared.machine.Machine.{Machine}
use Rattle.cap_machine.specs.Machine.{Frame, Thread, Configuration, Outcome, next, fault, disabled, step}
use Rattle.cap_machine.specs.Results.{entry_steps, are_narrow}
use Rattle.cap_machine.specs.Fits.{ConfigurationFits}
use Rattle.cap_machine.specs.Laws.{is_step}
use Rattle.cap_machine.specs.Places.{rest_at, IsSettled}

abbrev pub body_of : Option PlainFunction → Block
body_of None = done
body_of (Some g) = g.body

abbrev pub body_in : PlainProgram → code.Frame → Block
body_in p f = body_of (slice_get p.functions f.function)

abbrev pub frame_view : PlainProgram → code.Frame → Frame
frame_view p f = record {
  function = f.function;
  arguments = f.arguments.items;
  store = f.store.items;
  rest = rest_at (body_in p f) f.levels.items f.next;
  destination = f.destination;
}

-- the code keeps the top frame last
abbrev pub thread_view : PlainProgram → List code.Frame → Thread
thread_view p frames = reverse (map (frame_view p) frames)

-- where the machine is in its run of the program
unfoldable pub configuration : PlainProgram → Machine → Configuration
configuration p m = record { heap = m.heap; threads = map (λ (t : Vec code.Frame). thread_view p t.items) m.threads.items }

-- whether a fault stopped the machine
unfoldable pub is_stopped : Machine → Bool
is_stopped m = m.stopped

-- the frame is of a function of the program, and stands at a statement of its body or at its end
pub record IsPlaced (p : PlainProgram) (f : code.Frame) : Type 0 where
  pub exists : f.function < length p.functions
  pub settled : IsSettled (body_in p f) f.levels.items f.next

abbrev pub ArePlaced : PlainProgram → List code.Frame → Type 0
ArePlaced p frames = AllByRecursion (IsPlaced p) frames

unfoldable pub AllArePlaced : PlainProgram → Machine → Type 0
AllArePlaced p m = AllByRecursion (λ (t : Vec code.Frame). ArePlaced p t.items) m.threads.items

-- the machine runs this program
pub record RunsProgram (p : PlainProgram) (m : Machine) : Type 0 where
  pub frames : ConfigurationFits p (configuration p m)
  pub places : AllArePlaced p m

abbrev pub is_enabled : PlainProgram → Machine → Entry → Bool
is_enabled p m e = not (is_stopped m) && is_step (step p (configuration p m) e)

-- the machine is as it was
pub record IsSame (p : PlainProgram) (before after : Machine) : Type 0 where
  pub same_configuration : configuration p after ≡ configuration p before
  pub same_stop : is_stopped after ≡ is_stopped before

-- what the machine after a step shows, by what the step is
abbrev pub LeavesMachine : PlainProgram → Machine → Machine → Event → Outcome → Type 0
LeavesMachine p before after event (next c e) = (event ≡ e) × (configuration p after ≡ c) × (is_stopped after ≡ false)
LeavesMachine p before after event (fault e) = (event ≡ e) × (configuration p after ≡ configuration p before) × (is_stopped after ≡ true)
LeavesMachine p before after event disabled = ⊥

-- what a step answers, and the machine after it
abbrev pub Steps : PlainProgram → Entry → Machine → Machine → Result Event StepError → Type 0
Steps p e before after (Ok event) = (is_stopped before ≡ false) × (are_narrow (entry_steps (configuration p before) e) ≡ true) × LeavesMachine p before after event (step p (configuration p before) e)
Steps p e before after (Err NotEnabled) = (is_enabled p before e ≡ false) × IsSame p before after
Steps p e before after (Err Wide) = (is_enabled p before e ≡ true) × (are_narrow (entry_steps (configuration p before) e) ≡ false) × IsSame p before after
Steps p e before after (Err OutOfMemory) = IsSame p before after
