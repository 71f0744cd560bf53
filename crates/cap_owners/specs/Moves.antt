-- What a step makes of the frames of its thread, by its top frame, which noted the event of the step,
-- and by those below it.
use Rattle.std.specs.Prelude.{ℕ, true, false, List, [], ◌∷◌, ◌++◌, map, reverse, slice_get, slice_set, option_map, Option, Some, None, IfSome, ℤ}
use Rattle.cap_prog.specs.Program.{PlainProgram}
use Rattle.cap_goal_spec.specs.Roots.{function_unit}
use Rattle.cap_machine.specs.declared.event.Event.{Event}
use Rattle.cap_machine.specs.declared.event.Event.TheVariants.{Set, Read, Write, Cas, Faa, Dispose, Alloc, Call, Fork, Branch, Assert, Return, End}
use Rattle.cap_machine.specs.Machine.{Frame, Configuration, top_frame}
use Rattle.cap_machine_accounts.specs.Assertions.{NameValue, a_number}
use Rattle.cap_owners_spec.specs.Traced.{Traced, traced, untold, ◌>>=◌, found}
use Rattle.cap_owners_spec.specs.Track.{Fill, TrackedRegion, TrackedFrame}
use Rattle.cap_owners_spec.specs.Walks.{Taking, Halt, stands, leaves}
use Rattle.cap_owners_spec.specs.Steps as steps
use Rattle.cap_owners_spec.specs.Steps.{Proved, frame_walk, standing, keeping, callee_of, looping, root_at, ensures_root}
use Rattle.cap_owners.specs.declared.moves.Moved as code_moved
use Rattle.cap_owners.specs.declared.moves.Handed as code_handed
use Rattle.cap_owners.specs.declared.moves.Seated as code_seated
use Rattle.cap_owners.specs.declared.moves.Ending as code_ending
use Rattle.cap_owners.specs.Tracks.{frame_view, frames_view, FrameIsPlaced, FramesArePlaced}

-- a frame that noted an event
abbrev pub noted : TrackedFrame → Event → TrackedFrame
noted f event = record f { since = f.since ++ event ∷ [] }

-- the frame where it stands, on those below it
abbrev pub stands_on :
    Proved → List TrackedRegion → TrackedFrame → List TrackedFrame → Traced steps.Moved
stands_on d rs f below = do
  g ← standing d rs f
  traced (record { frames = g ∷ below; forked = None; regions = rs })

-- on in its tree, where others see nothing, with what it had and the cells of its state
abbrev pub keeps_at :
    Proved → List TrackedRegion → TrackedFrame → List TrackedFrame → Halt → Traced steps.Moved
keeps_at d rs f below h = do
  g ← keeping d f h
  traced (record { frames = g ∷ below; forked = None; regions = rs })

abbrev pub keeps_on :
    Proved → List TrackedRegion → TrackedFrame → List TrackedFrame → Traced steps.Moved
keeps_on d rs f below = frame_walk d false rs f f.since >>= keeps_at d rs f below

-- a frame at a seat, the regions there, and what is taken
pub record Seat : Type 0 where
  pub frame : TrackedFrame
  pub regions : List TrackedRegion
  pub taken : List Taking

abbrev pub seat_at : TrackedFrame → Halt → Traced Seat
seat_at f (leaves w) = untold
seat_at f (stands q w) = traced (record {
  frame = record f {
    seat = q;
    values = w.values;
    given = None;
    since = [];
    awaited = w.awaited;
  };
  regions = w.regions;
  taken = w.taken;
})

abbrev pub next_seat : Proved → List TrackedRegion → TrackedFrame → Traced Seat
next_seat d rs f = frame_walk d true rs f f.since >>= seat_at f

-- a heap statement
abbrev pub sits_on :
    Proved → List TrackedRegion → TrackedFrame → List TrackedFrame → Traced steps.Moved
sits_on d rs f below = do
  s ← next_seat d rs f
  stands_on d s.regions s.frame below

-- the last of what is taken: by what it is met
abbrev pub last_met : List Taking → Traced Fill
last_met ts = do
  t ← found (slice_get ts 0)
  traced t.fill

-- a caller gives what a callee requires, which is this frame of the machine
abbrev pub gives_over :
    Proved → List TrackedRegion → TrackedFrame → Option Frame → Traced steps.Handed
gives_over d rs f m = do
  s ← next_seat d rs f
  x ← last_met s.taken
  caller ← standing d s.regions s.frame
  begun ← callee_of d m x
  callee ← standing d s.regions begun
  traced (record { caller = caller; callee = callee; regions = s.regions })

abbrev pub calls_on :
    Proved → List TrackedRegion → TrackedFrame → List TrackedFrame → Option Frame →
    Traced steps.Moved
calls_on d rs f below m = do
  x ← gives_over d rs f m
  traced (record { frames = x.callee ∷ (x.caller ∷ below); forked = None; regions = x.regions })

abbrev pub forks_on :
    Proved → List TrackedRegion → TrackedFrame → List TrackedFrame → Option Frame →
    Traced steps.Moved
forks_on d rs f below m = do
  x ← gives_over d rs f m
  traced (record { frames = x.caller ∷ below; forked = Some x.callee; regions = x.regions })

-- what is met at the end of a tree, and the regions there
pub record Ending : Type 0 where
  pub fill : Fill
  pub regions : List TrackedRegion

abbrev pub ending_at : Halt → Traced Ending
ending_at (stands q w) = untold
ending_at (leaves w) = do
  x ← last_met w.taken
  traced (record { fill = x; regions = w.regions })

-- the caller of this frame of the machine, with the result, given what the callee promised
abbrev pub has_result :
    Proved → Frame → List NameValue → ℤ → TrackedFrame → Fill → TrackedFrame
has_result d m fixed v c x = record c {
  values = slice_set c.values c.awaited (a_number v);
  given = Some (record {
    stability = root_at d (function_unit m.function) ensures_root;
    values = map a_number m.arguments ++ (fixed ++ a_number v ∷ []);
    fill = x;
  });
}

abbrev pub caller_stands :
    Proved → Frame → List NameValue → ℤ → List TrackedFrame → Ending → Traced steps.Moved
caller_stands d m fixed v [] e =
    traced (record { frames = []; forked = None; regions = e.regions })
caller_stands d m fixed v (c ∷ below) e =
    stands_on d e.regions (has_result d m fixed v c e.fill) below

abbrev pub returns_on :
    Proved → List TrackedRegion → TrackedFrame → List TrackedFrame → Frame → ℤ →
    Traced steps.Moved
returns_on d rs f below m v = do
  h ← frame_walk d false rs f f.since
  e ← ending_at h
  caller_stands d m f.held.fixed v below e

-- a loop's tree begins behind the end of another one
abbrev pub loops_on :
    Proved → TrackedFrame → List TrackedFrame → Frame → Event → Ending → Traced steps.Moved
loops_on d f below m event e = do
  begun ← looping d m f event e.fill
  stands_on d e.regions begun below

-- a branch goes on in its tree, or it ends there
abbrev pub branches_at :
    Proved → List TrackedRegion → TrackedFrame → List TrackedFrame → Frame → Event → Halt →
    Traced steps.Moved
branches_at d rs f below m event (stands q w) = keeps_at d rs f below (stands q w)
branches_at d rs f below m event (leaves w) = do
  e ← ending_at (leaves w)
  loops_on d f below m event e

abbrev pub branches_on :
    Proved → List TrackedRegion → TrackedFrame → List TrackedFrame → Frame → Event →
    Traced steps.Moved
branches_on d rs f below m event =
    frame_walk d false rs f f.since >>= branches_at d rs f below m event

-- the machine's frames before the step, and the configuration that it leaves
abbrev pub moves :
    Proved → List TrackedRegion → TrackedFrame → List TrackedFrame → Frame → Configuration → ℕ →
    Event → Traced steps.Moved
moves d rs f below m after thread (Set v) = keeps_on d rs f below
moves d rs f below m after thread (Alloc base) = keeps_on d rs f below
moves d rs f below m after thread Assert = keeps_on d rs f below
moves d rs f below m after thread (Branch taken) = branches_on d rs f below m (Branch taken)
moves d rs f below m after thread (Read a v) = sits_on d rs f below
moves d rs f below m after thread (Write a v) = sits_on d rs f below
moves d rs f below m after thread (Cas a swapped) = sits_on d rs f below
moves d rs f below m after thread (Faa a v) = sits_on d rs f below
moves d rs f below m after thread (Dispose a) = sits_on d rs f below
moves d rs f below m after thread Call =
    calls_on d rs f below (top_frame (slice_get after.threads thread))
moves d rs f below m after thread (Fork k) =
    forks_on d rs f below (top_frame (slice_get after.threads k))
moves d rs f below m after thread (Return v) = returns_on d rs f below m v
moves d rs f below m after thread (End v) = returns_on d rs f below m v
moves d rs f below m after thread event = untold

-- ---- what contracts see

abbrev pub moved_view : code_moved.Moved → steps.Moved
moved_view x = record {
  frames = frames_view x.frames.items;
  forked = option_map frame_view x.forked;
  regions = x.regions;
}

pub record MovedIsPlaced (p : PlainProgram) (x : code_moved.Moved) : Type 0 where
  pub frames : FramesArePlaced p x.frames.items
  pub forked : IfSome x.forked (FrameIsPlaced p)

abbrev pub handed_view : code_handed.Handed → steps.Handed
handed_view x = record {
  caller = frame_view x.caller;
  callee = frame_view x.callee;
  regions = x.regions;
}

pub record HandedIsPlaced (p : PlainProgram) (x : code_handed.Handed) : Type 0 where
  pub caller : FrameIsPlaced p x.caller
  pub callee : FrameIsPlaced p x.callee

abbrev pub seated_view : code_seated.Seated → Seat
seated_view x = record {
  frame = frame_view x.frame;
  regions = x.regions;
  taken = reverse x.taken.items;
}

abbrev pub ending_view : code_ending.Ending → Ending
ending_view x = record { fill = x.fill; regions = x.regions }
