-- How the top frame of a thread changes.
use Rattle.std.specs.Prelude.{ℤ, Bool, List, [], ◌∷◌}
use Rattle.cap_prog.specs.Program.{Block, done, first, append}
use Rattle.cap_machine.specs.declared.event.Event.{Event}
use Rattle.cap_machine.specs.declared.event.Event.TheVariants.{Return, End}
use Rattle.cap_machine.specs.Machine.{Frame, Thread, with_rest, receives}
use Rattle.cap_machine.specs.Places.{inside, behind}

abbrev pub tail_of : Block → Block
tail_of done = done
tail_of (first l a b) = b

-- the frame behind its next statement
abbrev pub passed : Frame → Frame
passed f = with_rest f (tail_of f.rest)

-- the frame in a block of its next statement
abbrev pub entered : Bool → Frame → Frame
entered side f = with_rest f (append (inside side f.rest) (behind f.rest))

-- the thread whose top frame changes so
abbrev pub with_top : (Frame → Frame) → Thread → Thread
with_top change [] = []
with_top change (f ∷ fs) = change f ∷ fs

-- the caller, if there is one, with the result of a frame that is gone
abbrev pub received : Frame → ℤ → List Frame → List Frame
received returning v [] = []
received returning v (f ∷ fs) = receives returning.destination v f ∷ fs

abbrev pub returned : ℤ → Thread → Thread
returned v [] = []
returned v (f ∷ fs) = received f v fs

abbrev pub return_event : ℤ → Thread → Event
return_event v [] = End v
return_event v (f ∷ []) = End v
return_event v (f ∷ g ∷ fs) = Return v
