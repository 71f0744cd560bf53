-- A step of the track beside a step of the machine.
use Rattle.std.specs.Prelude.{ℕ, suc, ◌+◌, ◌*◌, ℤ, pos, Bool, true, false, ◌==◌, List, [], ◌∷◌, ◌++◌, map, flat_map, take, drop, length, position, slice_get, slice_set, unwrap_or, Option, Some, None}
use Rattle.std.specs.List.{list_all}
use Rattle.std.specs.Prelude.{if◌then◌else◌}
use Rattle.cap_rules.specs.cap_goal_spec.cap_lin.Linear.{same_number}
use Rattle.cap_rules.specs.cap_goal_spec.cap_prog.Program.{Block, done, PlainFunction, PlainProgram}
use Rattle.cap_rules.specs.cap_goal_spec.cap_prog.Scopes.{fixed_start}
use Rattle.cap_rules.specs.cap_goal_spec.States.{PlainGoal}
use Rattle.cap_rules.specs.cap_goal_spec.Choices.{PlainTree}
use Rattle.cap_rules.specs.cap_goal_spec.Roots.{PlainUnit, region_unit, function_unit, loops_in, roots, units, all_roots}
use Rattle.cap_machine.specs.declared.event.Event.{Event}
use Rattle.cap_machine.specs.declared.event.Event.TheVariants.{Set, Read, Write, Cas, Faa, Dispose, Alloc, Call, Fork, Branch, Assert, Return, End}
use Rattle.cap_machine.specs.Machine.{Frame, Configuration, top_frame}
use Rattle.cap_machine_accounts.specs.Parts.{no_part}
use Rattle.cap_machine_accounts.specs.Assertions.{NameValue, a_number}
use Rattle.cap_outline_spec.specs.Standing.{first_number}
use Rattle.cap_owners_spec.specs.Traced.{Traced, traced, untold, ◌>>=◌, found}
use Rattle.cap_owners_spec.specs.Track.{Fill, Place, TrackedRegion, GivenAssertion, TrackedFrame, Track, tracked_at}
use Rattle.cap_owners_spec.specs.Filling.{with_cells, part_held}
use Rattle.cap_owners_spec.specs.Walks.{Taking, Walk, nothing_taken, Interpreted, Interpreting, Halt, stands, leaves, walk_from}

-- a program with a tree for each of its roots
pub record Proved : Type 0 where
  pub program : PlainProgram
  pub trees : List (Option PlainTree)

-- ---- roots

abbrev pub place_of : Option PlainGoal → Option PlainTree → Option Place
place_of (Some g) (Some t) = Some (record { goal = g; tree = t })
place_of g t = None

abbrev pub units_before : PlainProgram → PlainUnit → List PlainUnit
units_before p (region_unit n) = take n (units p)
units_before p (function_unit n) = take (length p.regions + n) (units p)

-- root i of a unit, which may have no tasks and no tree
abbrev pub root_at : Proved → PlainUnit → ℕ → Option Place
root_at d u i =
    let n = length (flat_map (roots d.program) (units_before d.program u)) + i in
    place_of (unwrap_or (slice_get (all_roots d.program) n) None)
    (unwrap_or (slice_get d.trees n) None)

-- the stability of `requires` and of `ensures`, and the body
abbrev pub requires_root : ℕ
requires_root = 0

abbrev pub ensures_root : ℕ
ensures_root = 1

abbrev pub body_root : ℕ
body_root = 2

-- the stability of a loop's invariant; the loop comes behind it
abbrev pub invariant_root : ℕ → ℕ
invariant_root i = 3 + 2 * i

-- ---- what still holds, or holds again

-- the region is in this state
abbrev pub is_in_state : ℤ → Option TrackedRegion → Bool
is_in_state z None = false
is_in_state z (Some r) = same_number r.owned.region.state z

-- what is met still is, by the same values, where the regions of its facts are in the same states
abbrev pub is_current : List TrackedRegion → Fill → Bool
is_current rs f = list_all (λ x. is_in_state x.1 (tracked_at rs x.0)) f.facts

-- regions are numbered from 1 on
abbrev pub beginning :
    List TrackedRegion → List NameValue → List Taking → Option Fill → List Event → Walk
beginning rs vs taken fill events = record {
  values = vs;
  regions = rs;
  next = pos (1 + length rs);
  taken = taken;
  fill = fill;
  events = events;
  awaited = 0;
}

-- the trees of stability and of region types have no statements, so no region is entered there
abbrev pub none_entered : Interpreting
none_entered rs r = untold

abbrev pub taken_in_end : Halt → Traced Fill
taken_in_end (stands q w) = untold
taken_in_end (leaves w) = do
  t ← found (slice_get w.taken 0)
  traced t.fill

-- what was given is given again through its stability tree, as it was met when it was handed over
abbrev pub filled_again : Proved → List TrackedRegion → GivenAssertion → Option Place → Traced Fill
filled_again d rs g None = traced g.fill
filled_again d rs g (Some q) =
    walk_from none_entered d.program false q
    (beginning rs g.values (nothing_taken ∷ []) (Some g.fill) []) >>= taken_in_end

abbrev pub fill_now : Proved → List TrackedRegion → Option GivenAssertion → Traced (Option Fill)
fill_now d rs None = traced None
fill_now d rs (Some g) = do
  f ← if is_current rs g.fill then traced g.fill else filled_again d rs g g.stability
  traced (Some f)

-- the case and what it was by which the region owns its part
abbrev pub as_closed : TrackedRegion → Interpreted
as_closed r = record { case = r.case; fill = r.fill }

abbrev pub closed_in_end : ℤ → Halt → Traced Interpreted
closed_in_end n (stands q w) = untold
closed_in_end n (leaves w) = do
  r ← found (tracked_at w.regions n)
  traced (as_closed r)

-- by the tree of its case
abbrev pub interpreted_again :
    Proved → List TrackedRegion → TrackedRegion → Traced Interpreted
interpreted_again d rs r = do
  q ← found (root_at d (region_unit r.owned.region.kind) r.case)
  h ← walk_from none_entered d.program false q
      (beginning rs r.fill.names [] (Some r.fill) [])
  closed_in_end r.owned.region.number h

abbrev pub interpreted : Proved → Interpreting
interpreted d rs r =
    if is_current rs r.fill then traced (as_closed r) else interpreted_again d rs r

-- ---- where a frame stands

-- a frame catches up, and goes on with its own steps
abbrev pub frame_walk :
    Proved → Bool → List TrackedRegion → TrackedFrame → List Event → Traced Halt
frame_walk d seating rs f events = do
  fill ← fill_now d rs f.given
  walk_from (interpreted d) d.program seating f.seat (beginning rs f.values [] fill events)

-- its part is what its state holds there
abbrev pub owning : Proved → TrackedFrame → Halt → Traced TrackedFrame
owning d f (leaves w) = untold
owning d f (stands q w) = do
  part ← part_held d.program q.goal.state w.values
  traced (record f { held = record f.held { part = part } })

abbrev pub standing : Proved → List TrackedRegion → TrackedFrame → Traced TrackedFrame
standing d rs f = frame_walk d false rs f f.since >>= owning d f

-- where no heap is touched it keeps its part, with the cells that its state has by now
abbrev pub keeping : Proved → TrackedFrame → Halt → Traced TrackedFrame
keeping d f (leaves w) = untold
keeping d f (stands q w) = do
  part ← with_cells w.values f.held.part q.goal.state.cells
  traced (record f { held = record f.held { part = part } })

-- ---- where a frame begins

-- at a root behind whose assertion, which is given, it stands; variables have these values
abbrev pub begins_at :
    Proved → ℕ → ℕ → ℕ → List NameValue → List NameValue → Fill → List Event →
    Traced TrackedFrame
begins_at d n stability root vs fixed fill since = do
  q ← found (root_at d (function_unit n) root)
  traced (record {
    held = record { part = no_part; fixed = fixed };
    seat = q;
    values = vs;
    given = Some (record {
      stability = root_at d (function_unit n) stability;
      values = vs;
      fill = fill;
    });
    since = since;
    awaited = 0;
  })

-- the fixed names' values among those of `requires`
abbrev pub fixed_values : PlainFunction → Fill → List NameValue
fixed_values f x = take (length f.fixed) (drop (fixed_start f) x.names)

-- a callee, by what its `requires` is met
abbrev pub callee_of : Proved → Option Frame → Fill → Traced TrackedFrame
callee_of d o x = do
  m ← found o
  f ← found (slice_get d.program.functions m.function)
  begins_at d m.function requires_root body_root
      (map a_number m.arguments ++ fixed_values f x) (fixed_values f x) x []

-- the number of the loop that comes first
abbrev pub same_statement : Option ℕ → Option ℕ → Bool
same_statement (Some m) (Some n) = m == n
same_statement m n = false

abbrev pub loop_number : PlainFunction → Block → Option ℕ
loop_number f b =
    position (λ l. same_statement (first_number l.block) (first_number b)) (loops_in f.body done)

-- a frame at a loop, by what its invariant is met
abbrev pub looping : Proved → Frame → TrackedFrame → Event → Fill → Traced TrackedFrame
looping d m f event x = do
  g ← found (slice_get d.program.functions m.function)
  i ← found (loop_number g m.rest)
  begins_at d m.function (invariant_root i) (suc (invariant_root i))
      (map a_number m.store ++ f.held.fixed) f.held.fixed x (event ∷ [])

-- ---- a step

-- the frames of the stepping thread, that of a new thread, and the regions
pub record Moved : Type 0 where
  pub frames : List TrackedFrame
  pub forked : Option TrackedFrame
  pub regions : List TrackedRegion

-- what is known before a step: the machine's frame, the configuration that the step leaves, the
-- stepping thread, its frame and those below, and the regions
pub record Scene : Type 0 where
  pub frame : Frame
  pub after : Configuration
  pub thread : ℕ
  pub top : TrackedFrame
  pub below : List TrackedFrame
  pub regions : List TrackedRegion

abbrev pub walk_of : Proved → Bool → Scene → Event → Traced Halt
walk_of d seating s event = frame_walk d seating s.regions s.top (s.top.since ++ event ∷ [])

-- a seat to which the frame came, and the walk there
abbrev pub seated : TrackedFrame → Halt → Traced (TrackedFrame × Walk)
seated f (leaves w) = untold
seated f (stands q w) = traced (
  record f {
    seat = q;
    values = w.values;
    given = None;
    since = [];
    awaited = w.awaited;
  },
  w,
)

-- on in its tree, where others see nothing
abbrev pub stays_seated : Proved → Scene → Event → Traced Moved
stays_seated d s event = do
  h ← walk_of d false s event
  f ← keeping d (record s.top { since = s.top.since ++ event ∷ [] }) h
  traced (record { frames = f ∷ s.below; forked = None; regions = s.regions })

-- a heap statement: regions are entered and closed
abbrev pub takes_seat : Proved → Scene → Event → Traced Moved
takes_seat d s event = do
  h ← walk_of d true s event
  x ← seated s.top h
  f ← standing d x.1.regions x.0
  traced (record { frames = f ∷ s.below; forked = None; regions = x.1.regions })

-- of a call or a fork: the caller, and the callee with what was taken
pub record Handed : Type 0 where
  pub caller : TrackedFrame
  pub callee : TrackedFrame
  pub regions : List TrackedRegion

abbrev pub hands_over : Proved → Scene → Event → Option Frame → Traced Handed
hands_over d s event m = do
  h ← walk_of d true s event
  x ← seated s.top h
  t ← found (slice_get x.1.taken 0)
  caller ← standing d x.1.regions x.0
  begun ← callee_of d m t.fill
  callee ← standing d x.1.regions begun
  traced (record { caller = caller; callee = callee; regions = x.1.regions })

abbrev pub tracks_call : Proved → Scene → Traced Moved
tracks_call d s = do
  x ← hands_over d s Call (top_frame (slice_get s.after.threads s.thread))
  traced (record { frames = x.callee ∷ x.caller ∷ s.below; forked = None; regions = x.regions })

abbrev pub tracks_fork : Proved → Scene → ℕ → Traced Moved
tracks_fork d s k = do
  x ← hands_over d s (Fork k) (top_frame (slice_get s.after.threads k))
  traced (record { frames = x.caller ∷ s.below; forked = Some x.callee; regions = x.regions })

-- to the end of its tree: by what the last assertion was met, and the regions
abbrev pub ended_walk : Halt → Traced (Fill × Walk)
ended_walk (stands q w) = untold
ended_walk (leaves w) = do
  t ← found (slice_get w.taken 0)
  traced (t.fill, w)

-- the caller has the result, and is given what the callee promised
abbrev pub received : Proved → Scene → ℤ → TrackedFrame → Fill → TrackedFrame
received d s v c x = record c {
  values = slice_set c.values c.awaited (a_number v);
  given = Some (record {
    stability = root_at d (function_unit s.frame.function) ensures_root;
    values = map a_number s.frame.arguments ++ (s.top.held.fixed ++ a_number v ∷ []);
    fill = x;
  });
}

abbrev pub gives_result :
    Proved → Scene → ℤ → List TrackedFrame → Fill × Walk → Traced (List TrackedFrame)
gives_result d s v [] x = traced []
gives_result d s v (c ∷ below) x = do
  f ← standing d x.1.regions (received d s v c x.0)
  traced (f ∷ below)

abbrev pub tracks_return : Proved → Scene → Event → ℤ → Traced Moved
tracks_return d s event v = do
  h ← walk_of d false s event
  x ← ended_walk h
  fs ← gives_result d s v s.below x
  traced (record { frames = fs; forked = None; regions = x.1.regions })

-- a loop's tree begins behind the end of another one
abbrev pub tracks_branch : Proved → Scene → Event → Halt → Traced Moved
tracks_branch d s event (stands q w) = stays_seated d s event
tracks_branch d s event (leaves w) = do
  x ← ended_walk (leaves w)
  begun ← looping d s.frame s.top event x.0
  f ← standing d w.regions begun
  traced (record { frames = f ∷ s.below; forked = None; regions = w.regions })

abbrev pub moved : Proved → Scene → Event → Traced Moved
moved d s (Set v) = stays_seated d s (Set v)
moved d s (Alloc base) = stays_seated d s (Alloc base)
moved d s Assert = stays_seated d s Assert
moved d s (Branch taken) = walk_of d false s (Branch taken) >>= tracks_branch d s (Branch taken)
moved d s (Read a v) = takes_seat d s (Read a v)
moved d s (Write a v) = takes_seat d s (Write a v)
moved d s (Cas a swapped) = takes_seat d s (Cas a swapped)
moved d s (Faa a v) = takes_seat d s (Faa a v)
moved d s (Dispose a) = takes_seat d s (Dispose a)
moved d s Call = tracks_call d s
moved d s (Fork k) = tracks_fork d s k
moved d s (Return v) = tracks_return d s (Return v) v
moved d s (End v) = tracks_return d s (End v) v
moved d s event = untold

abbrev pub new_thread : Option TrackedFrame → List (List TrackedFrame)
new_thread None = []
new_thread (Some f) = (f ∷ []) ∷ []

abbrev pub after_move : Track → ℕ → Moved → Track
after_move k thread x = record {
  regions = x.regions;
  threads = slice_set k.threads thread x.frames ++ new_thread x.forked;
}

abbrev pub followed :
    Proved → Track → ℕ → Event → Configuration → Option Frame → Option (List TrackedFrame) →
    Traced Track
followed d k thread event after (Some m) (Some (top ∷ below)) = do
  x ← moved d (record {
    frame = m;
    after = after;
    thread = thread;
    top = top;
    below = below;
    regions = k.regions;
  })
      event
  traced (after_move k thread x)
followed d k thread event after m fs = untold

-- the track after a step of this thread, between these configurations
abbrev pub follow :
    Proved → Track → ℕ → Event → Configuration → Configuration → Traced Track
follow d k thread event before after =
    followed d k thread event after (top_frame (slice_get before.threads thread))
    (slice_get k.threads thread)
