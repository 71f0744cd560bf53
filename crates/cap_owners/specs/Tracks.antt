-- What contracts see of the track of a run.
use Rattle.std.specs.Prelude.{◌≡◌, ◌<◌, ℕ, List, [], ◌∷◌, length, map, reverse, slice_get, slice_set, option_map, Option, None, Some, IfSome}
use Rattle.std.specs.List.{AllByRecursion}
use Rattle.std.specs.Global.{Vec}
use Rattle.std.specs.Borrow.{Bor}
use Rattle.cap_prog.specs.Program.{PlainProgram}
use Rattle.cap_machine.specs.Machine.{Frame}
use Rattle.cap_machine.specs.View.{frame_view as machine_frame}
use Rattle.cap_machine.specs.declared.frame.Frame as code
use Rattle.cap_outline_spec.specs.Standing.{first_number}
use Rattle.cap_owners_spec.specs.Track as plain
use Rattle.cap_goal_spec.specs.Choices.{PlainTree}
use Rattle.cap_owners_places.specs.declared.roots.Roots.{Roots}
use Rattle.cap_owners_places.specs.Views.{place_view, AreRoots, IsPlaced}
use Rattle.cap_owners_walks.specs.Views.{given_view, GivenIsPlaced}
use Rattle.cap_owners.specs.declared.step.Stepping.{Stepping}
use Rattle.cap_owners.specs.declared.track.TrackedFrame.{TrackedFrame}
use Rattle.cap_owners.specs.declared.track.Track.{Track}

-- the roots of a program, with some trees
abbrev pub AreRootsOf : PlainProgram → Roots → Type 0
AreRootsOf p r = (ts : List (Option PlainTree)) × AreRoots p ts r

abbrev pub frame_view : TrackedFrame → plain.TrackedFrame
frame_view f = record {
  held = record { part = f.part; fixed = f.fixed };
  seat = place_view f.seat.now;
  values = f.values;
  given = option_map given_view f.given;
  since = f.since.items;
  awaited = f.awaited;
}

-- the code keeps the top frame last
abbrev pub frames_view : List TrackedFrame → List plain.TrackedFrame
frames_view fs = reverse (map frame_view fs)

abbrev pub threads_view : List (Vec TrackedFrame) → List (List plain.TrackedFrame)
threads_view ts = map (λ (t : Vec TrackedFrame). frames_view t.items) ts

abbrev pub track_view : Track → plain.Track
track_view k = record { regions = k.regions; threads = threads_view k.threads.items }

-- each node of its trees has the goals that the choices before leave
pub record FrameIsPlaced (p : PlainProgram) (f : TrackedFrame) : Type 0 where
  pub seat : IsPlaced p f.seat.now
  pub given : IfSome f.given (GivenIsPlaced p)

abbrev pub FramesArePlaced : PlainProgram → List TrackedFrame → Type 0
FramesArePlaced p fs = AllByRecursion (FrameIsPlaced p) fs

abbrev pub ThreadsArePlaced : PlainProgram → List (Vec TrackedFrame) → Type 0
ThreadsArePlaced p ts = AllByRecursion (λ (t : Vec TrackedFrame). FramesArePlaced p t.items) ts

abbrev pub TrackIsPlaced : PlainProgram → Track → Type 0
TrackIsPlaced p k = ThreadsArePlaced p k.threads.items

abbrev pub SomeTrackIsPlaced : PlainProgram → Option Track → Type 0
SomeTrackIsPlaced p k = IfSome k (TrackIsPlaced p)

-- there is no such thread, or it has ended
abbrev pub HasNoTop : Option (List plain.TrackedFrame) → Type 0
HasNoTop None = Unit {0}
HasNoTop (Some []) = Unit {0}
HasNoTop (Some (f ∷ fs)) = ⊥

-- these are the threads but for one
abbrev pub AreOthers : ℕ → List (List plain.TrackedFrame) → List (Vec TrackedFrame) → Type 0
AreOthers thread all others =
    (fs : List plain.TrackedFrame) →
    slice_set (threads_view others) thread fs ≡ slice_set all thread fs

-- a thread's top frame is taken, with those below it
pub record IsTaken
    (thread : ℕ) (all others : List (Vec TrackedFrame)) (top : TrackedFrame)
    (below : List TrackedFrame) : Type 0 where
  pub there : slice_get (threads_view all) thread ≡ Some (frame_view top ∷ frames_view below)
  pub rest : AreOthers thread (threads_view all) others
  pub within : thread < length others

pub record TakenIsPlaced
    (p : PlainProgram) (others : List (Vec TrackedFrame)) (top : TrackedFrame)
    (below : List TrackedFrame) : Type 0 where
  pub placed_others : ThreadsArePlaced p others
  pub placed_top : FrameIsPlaced p top
  pub placed_below : FramesArePlaced p below

abbrev pub lent_frame : PlainProgram → Option (Bor code.Frame) → Option Frame
lent_frame p o = option_map (λ f. machine_frame p f.now) o

-- what is kept of the machine's frame before it steps
pub record Sees (s : Stepping) (m : Frame) : Type 0 where
  pub function : s.function ≡ m.function
  pub arguments : s.arguments.items ≡ m.arguments
  pub store : s.store.items ≡ m.store
  pub number : s.number ≡ first_number m.rest

abbrev pub SeesTopOf : Option Stepping → Option Frame → Type 0
SeesTopOf None None = Unit {0}
SeesTopOf (Some s) (Some m) = Sees s m
SeesTopOf s m = ⊥

-- of what is lent
abbrev pub SeesTop : Option (Bor Stepping) → Option Frame → Type 0
SeesTop s m = SeesTopOf (option_map (λ x. x.now) s) m
