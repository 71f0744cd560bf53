-- What a step makes of its thread's frames, by the frame that noted its event, is what the definition
-- says by the frame before.
use Rattle.std.proofs.Common.{◌≡◌, ap, sym, refl, ℕ, List, [], ◌∷◌, Option, Some, None}
use Rattle.std.specs.Prelude.{slice_get, ℤ, true, false}
use Rattle.cap_machine.specs.declared.event.Event.{Event}
use Rattle.cap_machine.specs.declared.event.Event.TheVariants.{Set, Read, Write, Cas, Faa, Dispose, Alloc, Call, Fork, Branch, Assert, Return, End, Bad, Failed}
use Rattle.cap_machine.specs.Machine.{Frame, Configuration, top_frame}
use Rattle.cap_owners_spec.specs.Traced.{Traced, traced, past_width, untold, ◌>>=◌, found}
use Rattle.cap_owners_spec.specs.Track.{Fill, TrackedRegion, TrackedFrame}
use Rattle.cap_owners_spec.specs.Walks.{Taking, Walk, Halt, stands, leaves}
use Rattle.cap_owners_spec.specs.Steps.{Proved, Scene, Moved, Handed, walk_of, stays_seated, seated, takes_seat, standing, callee_of, hands_over, tracks_call, tracks_fork, ended_walk, received, gives_result, tracks_return, tracks_branch, looping, moved}
use Rattle.cap_owners.specs.Moves.{noted, keeps_at, keeps_on, seat_at, stands_on, sits_on, last_met, gives_over, calls_on, forks_on, Ending, ending_at, caller_stands, returns_on, branches_at, branches_on, moves}

module _ (d : Proved) (rs : List TrackedRegion) (top : TrackedFrame) (below : List TrackedFrame) (m : Frame) (after : Configuration) (thread : ℕ) where
  abbrev pub scene : Scene
  scene = record { frame = m; after = after; thread = thread; top = top; below = below; regions = rs }

  abbrev moved_with : List TrackedRegion → List TrackedFrame → Moved
  moved_with rs fs = record { frames = fs; forked = None; regions = rs }

  abbrev ending_with : Walk → Fill → Ending
  ending_with w x = record { fill = x; regions = w.regions }

  abbrev ended_with : Walk → Taking → Traced (Fill × Walk)
  ended_with w t = traced (t.fill, w)

  keeps : (event : Event) → keeps_on d rs (noted top event) below ≡ stays_seated d scene event
  keeps event = refl

  sits : (event : Event) → sits_on d rs (noted top event) below ≡ takes_seat d scene event
  sits event = go (walk_of d true scene event)
    where
      go :
          (t : Traced Halt) →
          ((t >>= seat_at (noted top event)) >>= λ s. stands_on d s.regions s.frame below)
          ≡ (t >>= λ h. seated top h >>= λ x. standing d x.1.regions x.0 >>= λ f. traced (moved_with x.1.regions (f ∷ below)))
      go (traced (stands q w)) = refl
      go (traced (leaves w)) = refl
      go past_width = refl
      go untold = refl

  -- ---- a callee is given what it requires

  abbrev handed-by : List TrackedRegion → TrackedFrame → Option Frame → Fill → Traced Handed
  handed-by rs f o x = do
    caller ← standing d rs f
    begun ← callee_of d o x
    callee ← standing d rs begun
    traced (record { caller = caller; callee = callee; regions = rs })

  handed : (rs : List TrackedRegion) (f : TrackedFrame) (o : Option Frame) (a : Option Taking) → ((found a >>= λ t. traced t.fill) >>= handed-by rs f o) ≡ (found a >>= λ t. handed-by rs f o t.fill)
  handed rs f o None = refl
  handed rs f o (Some t) = refl

  gives : (event : Event) (o : Option Frame) → gives_over d rs (noted top event) o ≡ hands_over d scene event o
  gives event o = go (walk_of d true scene event)
    where
      go :
          (t : Traced Halt) →
          ((t >>= seat_at (noted top event)) >>= λ s. last_met s.taken >>= handed-by s.regions s.frame o)
          ≡ (t >>= λ h. seated top h >>= λ x. found (slice_get x.1.taken 0) >>= λ a. handed-by x.1.regions x.0 o a.fill)
      go (traced (stands q w)) = handed w.regions (record top { seat = q; values = w.values; given = None; since = []; awaited = w.awaited }) o (slice_get w.taken 0)
      go (traced (leaves w)) = refl
      go past_width = refl
      go untold = refl

  calls : calls_on d rs (noted top Call) below (top_frame (slice_get after.threads thread)) ≡ tracks_call d scene
  calls =
      ap (λ t. t >>= λ x. traced (record { frames = x.callee ∷ (x.caller ∷ below); forked = None; regions = x.regions })) (gives Call (top_frame (slice_get after.threads thread)))

  forks : (k : ℕ) → forks_on d rs (noted top (Fork k)) below (top_frame (slice_get after.threads k)) ≡ tracks_fork d scene k
  forks k =
      ap (λ t. t >>= λ x. traced (record { frames = x.caller ∷ below; forked = Some x.callee; regions = x.regions })) (gives (Fork k) (top_frame (slice_get after.threads k)))

  -- ---- to the end of a tree

  -- the frames, of which a caller stands by now
  stood : (fs : List TrackedFrame) (v : ℤ) (w : Walk) (x : Fill) (event : Event) → caller_stands d m top.held.fixed v fs (ending_with w x) ≡ (gives_result d scene v fs (x, w) >>= λ gs. traced (moved_with w.regions gs))
  stood [] v w x event = refl
  stood (c ∷ cs) v w x event = go (standing d w.regions (received d scene v c x))
    where
      go :
          (t : Traced TrackedFrame) →
          (t >>= λ g. traced (moved_with w.regions (g ∷ cs)))
          ≡ ((t >>= λ f. traced (f ∷ cs)) >>= λ gs. traced (moved_with w.regions gs))
      go (traced g) = refl
      go past_width = refl
      go untold = refl

  returns : (event : Event) (v : ℤ) → returns_on d rs (noted top event) below m v ≡ tracks_return d scene event v
  returns event v = go (walk_of d false scene event)
    where
      taken :
          (w : Walk) (a : Option Taking) →
          (((found a >>= λ t. traced t.fill) >>= λ x. traced (ending_with w x)) >>= caller_stands d m top.held.fixed v below)
          ≡ ((found a >>= ended_with w) >>= λ x. gives_result d scene v below x >>= λ fs. traced (moved_with x.1.regions fs))
      taken w None = refl
      taken w (Some t) = stood below v w t.fill event

      go :
          (t : Traced Halt) →
          (t >>= λ h. ending_at h >>= caller_stands d m top.held.fixed v below)
          ≡ (t >>= λ h. ended_walk h >>= λ x. gives_result d scene v below x >>= λ fs. traced (moved_with x.1.regions fs))
      go (traced (stands q w)) = refl
      go (traced (leaves w)) = taken w (slice_get w.taken 0)
      go past_width = refl
      go untold = refl

  branches : (event : Event) → branches_on d rs (noted top event) below m event ≡ (walk_of d false scene event >>= tracks_branch d scene event)
  branches event = go (walk_of d false scene event) refl
    where
      taken :
          (w : Walk) (a : Option Taking) →
          (((found a >>= λ t. traced t.fill) >>= λ x. traced (ending_with w x)) >>= λ e. looping d m (noted top event) event e.fill >>= λ begun. stands_on d e.regions begun below)
          ≡ ((found a >>= ended_with w) >>= λ x. looping d m top event x.0 >>= λ begun. standing d w.regions begun >>= λ f. traced (moved_with w.regions (f ∷ below)))
      taken w None = refl
      taken w (Some t) = refl

      go : (t : Traced Halt) → walk_of d false scene event ≡ t → (t >>= branches_at d rs (noted top event) below m event) ≡ (t >>= tracks_branch d scene event)
      go (traced (stands q w)) e = sym (ap (λ t. t >>= keeps_at d rs (noted top event) below) e)
      go (traced (leaves w)) e = taken w (slice_get w.taken 0)
      go past_width e = refl
      go untold e = refl

  -- ---- by its event

  pub moves-same : (event : Event) → moves d rs (noted top event) below m after thread event ≡ moved d scene event
  moves-same (Set v) = keeps (Set v)
  moves-same (Alloc base) = keeps (Alloc base)
  moves-same Assert = keeps Assert
  moves-same (Branch taken) = branches (Branch taken)
  moves-same (Read a v) = sits (Read a v)
  moves-same (Write a v) = sits (Write a v)
  moves-same (Cas a swapped) = sits (Cas a swapped)
  moves-same (Faa a v) = sits (Faa a v)
  moves-same (Dispose a) = sits (Dispose a)
  moves-same Call = calls
  moves-same (Fork k) = forks k
  moves-same (Return v) = returns (Return v) v
  moves-same (End v) = returns (End v) v
  moves-same (Bad a) = refl
  moves-same (Failed place) = refl
