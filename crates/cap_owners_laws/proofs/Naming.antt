-- Frames that stay keep the values of their fixed names.
use Rattle.std.proofs.Common.{◌≡◌, ℕ, zero, suc, ℤ, List, [], ◌∷◌, ◌++◌, map, false, true, Option, Some, None, refl, sym, ap, subst, ◌∙◌}
use Rattle.std.specs.Prelude.{slice_get, slice_set}
use Rattle.cap_rules.specs.cap_goal_spec.Roots.{function_unit}
use Rattle.cap_machine_accounts.specs.Parts.{no_part}
use Rattle.cap_machine_accounts.specs.Assertions.{NameValue, a_number}
use Rattle.cap_machine.specs.declared.event.Event.{Event}
use Rattle.cap_machine.specs.declared.event.Event.TheVariants.{Set, Read, Write, Cas, Faa, Dispose, Alloc, Call, Fork, Branch, Assert, Return, End, Bad, Failed}
use Rattle.cap_machine.specs.Machine.{Frame, Configuration, top_frame}
use Rattle.cap_owners_spec.specs.Traced.{Traced, traced, ◌>>=◌, found}
use Rattle.cap_owners_spec.specs.Track.{Fill, TrackedRegion, TrackedFrame, Track}
use Rattle.cap_owners_spec.specs.Filling.{with_cells, part_held}
use Rattle.cap_owners_spec.specs.Walks.{Taking, Walk, Halt, stands, leaves}
use Rattle.cap_owners_spec.specs.Steps.{Proved, Moved, Scene, Handed, invariant_root, frame_walk, owning, standing, keeping, walk_of, seated, callee_of, loop_number, begins_at, root_at, looping, ended_walk, hands_over, gives_result, stays_seated, takes_seat, tracks_call, tracks_fork, tracks_return, tracks_branch, moved, new_thread, after_move, followed, follow, received}
use Rattle.cap_owners_laws.specs.Laws.{SameNames, StaysOn, ReturnsTo, FramesGo}
use Rattle.cap_owners_laws.proofs.Meetings.{On, on-bind}
use Rattle.cap_owners_laws.proofs.Fitting.{on-after}
use Rattle.cap_owners_laws.proofs.Steps.{was-traced, traced-same, in-front}

module _ (d : Proved) where
  owning-names : (f : TrackedFrame) (h : Halt) → On (SameNames f) (owning d f h)
  owning-names f (leaves w) = tt
  owning-names f (stands q w) =
      on-after (SameNames f) (part_held d.program q.goal.state w.values)
      (λ part. traced (record f { held = record f.held { part = part } })) (λ part. refl)

  keeping-names : (f : TrackedFrame) (h : Halt) → On (SameNames f) (keeping d f h)
  keeping-names f (leaves w) = tt
  keeping-names f (stands q w) =
      on-after (SameNames f) (with_cells w.values f.held.part q.goal.state.cells)
      (λ part. traced (record f { held = record f.held { part = part } })) (λ part. refl)

  standing-names :
      (rs : List TrackedRegion) (f : TrackedFrame) → On (SameNames f) (standing d rs f)
  standing-names rs f =
      on-after (SameNames f) (frame_walk d false rs f f.since) (owning d f) (owning-names f)

  seated-names :
      (f : TrackedFrame) (h : Halt) → On (λ x. SameNames f x.0) (seated f h)
  seated-names f (leaves w) = tt
  seated-names f (stands q w) = refl

  begins-names :
      (n i j : ℕ) (vs fixed : List NameValue) (x : Fill) (es : List Event) →
      On (λ g. g.held.fixed ≡ fixed) (begins_at d n i j vs fixed x es)
  begins-names n i j vs fixed x es =
      on-after (λ g. g.held.fixed ≡ fixed) (found (root_at d (function_unit n) j))
      (λ q. traced (record {
        held = record { part = no_part; fixed = fixed };
        seat = q;
        values = vs;
        given = Some (record {
          stability = root_at d (function_unit n) i;
          values = vs;
          fill = x;
        });
        since = es;
        awaited = 0;
      }))
      (λ q. refl)

  looping-names :
      (m : Frame) (f : TrackedFrame) (event : Event) (x : Fill) →
      On (SameNames f) (looping d m f event x)
  looping-names m f event x =
      on-after (SameNames f) (found (slice_get d.program.functions m.function))
      (λ g. found (loop_number g m.rest) >>= λ i.
      begins_at d m.function (invariant_root i) (suc (invariant_root i))
      (map a_number m.store ++ f.held.fixed) f.held.fixed x (event ∷ []))
      (λ g. on-after (SameNames f) (found (loop_number g m.rest))
      (λ i. begins_at d m.function (invariant_root i) (suc (invariant_root i))
      (map a_number m.store ++ f.held.fixed) f.held.fixed x (event ∷ []))
      (λ i. begins-names m.function (invariant_root i) (suc (invariant_root i))
      (map a_number m.store ++ f.held.fixed) f.held.fixed x (event ∷ [])))

module _ (d : Proved) (s : Scene) where
  abbrev Goes : Event → Moved → Type 0
  Goes event x = FramesGo event s.top s.below x.frames

  abbrev Stays : Moved → Type 0
  Stays x = StaysOn s.top s.below x.frames

  seated-stay : (event : Event) → On Stays (stays_seated d s event)
  seated-stay event =
      on-after Stays (walk_of d false s event)
      (λ h. keeping d (record s.top { since = s.top.since ++ event ∷ [] }) h >>= λ f.
      traced (record { frames = f ∷ s.below; forked = None; regions = s.regions }))
      (λ h. on-bind (SameNames s.top) Stays
      (keeping d (record s.top { since = s.top.since ++ event ∷ [] }) h)
      (λ f. traced (record { frames = f ∷ s.below; forked = None; regions = s.regions }))
      (keeping-names d (record s.top { since = s.top.since ++ event ∷ [] }) h)
      (λ f e. (f, refl, e)))

  seat-stay : (event : Event) → On Stays (takes_seat d s event)
  seat-stay event =
      on-after Stays (walk_of d true s event)
      (λ h. seated s.top h >>= λ x. (standing d x.1.regions x.0 >>= λ f.
      traced (record { frames = f ∷ s.below; forked = None; regions = x.1.regions })))
      (λ h. on-bind (λ x. SameNames s.top x.0) Stays (seated s.top h)
      (λ x. standing d x.1.regions x.0 >>= λ f.
      traced (record { frames = f ∷ s.below; forked = None; regions = x.1.regions }))
      (seated-names d s.top h)
      (λ x i. on-bind (SameNames x.0) Stays (standing d x.1.regions x.0)
      (λ f. traced (record {
        frames = f ∷ s.below;
        forked = None;
        regions = x.1.regions;
      }))
      (standing-names d x.1.regions x.0) (λ f e. (f, refl, e ∙ i))))

  -- the caller of a call or a fork
  abbrev CallerStays : Handed → Type 0
  CallerStays x = SameNames s.top x.caller

  abbrev after_callee :
      TrackedFrame × Walk → TrackedFrame → TrackedFrame → Traced Handed
  after_callee x f b =
      standing d x.1.regions b >>= λ g.
      traced (record { caller = f; callee = g; regions = x.1.regions })

  abbrev after_caller :
      Option Frame → TrackedFrame × Walk → Taking → TrackedFrame → Traced Handed
  after_caller m x t f = callee_of d m t.fill >>= after_callee x f

  abbrev after_seat : Option Frame → TrackedFrame × Walk → Taking → Traced Handed
  after_seat m x t = standing d x.1.regions x.0 >>= after_caller m x t

  handed-names :
      (event : Event) (m : Option Frame) →
      On CallerStays (hands_over d s event m)
  handed-names event m =
      on-after CallerStays (walk_of d true s event)
      (λ h. seated s.top h >>= λ x. (found (slice_get x.1.taken 0) >>= λ t. after_seat m x t))
      (λ h. on-bind (λ x. SameNames s.top x.0) CallerStays (seated s.top h)
      (λ x. found (slice_get x.1.taken 0) >>= λ t. after_seat m x t) (seated-names d s.top h)
      (λ x i. on-after CallerStays (found (slice_get x.1.taken 0)) (after_seat m x)
      (λ t. on-bind (SameNames x.0) CallerStays (standing d x.1.regions x.0) (after_caller m x t)
      (standing-names d x.1.regions x.0)
      (λ f e. on-after CallerStays (callee_of d m t.fill) (after_callee x f)
      (λ b. on-after CallerStays (standing d x.1.regions b)
      (λ g. traced (record {
        caller = f;
        callee = g;
        regions = x.1.regions;
      }))
      (λ g. e ∙ i))))))

  call-goes : On (Goes Call) (tracks_call d s)
  call-goes =
      on-bind CallerStays (Goes Call)
      (hands_over d s Call (top_frame (slice_get s.after.threads s.thread)))
      (λ x. traced (record {
        frames = x.callee ∷ (x.caller ∷ s.below);
        forked = None;
        regions = x.regions;
      }))
      (handed-names Call (top_frame (slice_get s.after.threads s.thread)))
      (λ x e. (x.callee, x.caller, refl, e))

  fork-stays : (k : ℕ) → On Stays (tracks_fork d s k)
  fork-stays k =
      on-bind CallerStays Stays (hands_over d s (Fork k) (top_frame (slice_get s.after.threads k)))
      (λ x. traced (record {
        frames = x.caller ∷ s.below;
        forked = Some x.callee;
        regions = x.regions;
      }))
      (handed-names (Fork k) (top_frame (slice_get s.after.threads k)))
      (λ x e. (x.caller, refl, e))

  result-goes :
      (v : ℤ) (below : List TrackedFrame) (x : Fill × Walk) →
      On (ReturnsTo below) (gives_result d s v below x)
  result-goes v [] x = refl
  result-goes v (c ∷ below) x =
      on-bind (SameNames (received d s v c x.0)) (ReturnsTo (c ∷ below))
      (standing d x.1.regions (received d s v c x.0)) (λ f. traced (f ∷ below))
      (standing-names d x.1.regions (received d s v c x.0)) (λ f e. (f, refl, e))

  abbrev Returns : Moved → Type 0
  Returns x = ReturnsTo s.below x.frames

  return-goes : (event : Event) (v : ℤ) → On Returns (tracks_return d s event v)
  return-goes event v =
      on-after Returns (walk_of d false s event)
      (λ h. ended_walk h >>= λ x. (gives_result d s v s.below x >>= λ fs.
      traced (record { frames = fs; forked = None; regions = x.1.regions })))
      (λ h. on-after Returns (ended_walk h)
      (λ x. gives_result d s v s.below x >>= λ fs.
      traced (record { frames = fs; forked = None; regions = x.1.regions }))
      (λ x. on-bind (ReturnsTo s.below) Returns (gives_result d s v s.below x)
      (λ fs. traced (record { frames = fs; forked = None; regions = x.1.regions }))
      (result-goes v s.below x) (λ fs e. e)))

  branch-stays : (event : Event) (h : Halt) → On Stays (tracks_branch d s event h)
  branch-stays event (stands q w) = seated-stay event
  branch-stays event (leaves w) =
      on-after Stays (ended_walk (leaves w))
      (λ x. looping d s.frame s.top event x.0 >>= λ g. (standing d w.regions g >>= λ f.
      traced (record { frames = f ∷ s.below; forked = None; regions = w.regions })))
      (λ x. on-bind (SameNames s.top) Stays (looping d s.frame s.top event x.0)
      (λ g. standing d w.regions g >>= λ f.
      traced (record { frames = f ∷ s.below; forked = None; regions = w.regions }))
      (looping-names d s.frame s.top event x.0)
      (λ g i. on-bind (SameNames g) Stays (standing d w.regions g)
      (λ f. traced (record { frames = f ∷ s.below; forked = None; regions = w.regions }))
      (standing-names d w.regions g) (λ f e. (f, refl, e ∙ i))))

  moved-goes : (event : Event) → On (Goes event) (moved d s event)
  moved-goes (Set v) = seated-stay (Set v)
  moved-goes (Alloc b) = seated-stay (Alloc b)
  moved-goes Assert = seated-stay Assert
  moved-goes (Branch taken) =
      on-after (Goes (Branch taken)) (walk_of d false s (Branch taken))
      (tracks_branch d s (Branch taken)) (branch-stays (Branch taken))
  moved-goes (Read a v) = seat-stay (Read a v)
  moved-goes (Write a v) = seat-stay (Write a v)
  moved-goes (Cas a b) = seat-stay (Cas a b)
  moved-goes (Faa a v) = seat-stay (Faa a v)
  moved-goes (Dispose a) = seat-stay (Dispose a)
  moved-goes Call = call-goes
  moved-goes (Fork k) = fork-stays k
  moved-goes (Return v) = return-goes (Return v) v
  moved-goes (End v) = return-goes (End v) v
  moved-goes (Bad a) = tt
  moved-goes (Failed place) = tt

own-set :
    {A : Type 0} (xs : List A) (n : ℕ) (x y : A) → slice_get xs n ≡ Some y →
    slice_get (slice_set xs n x) n ≡ Some x
own-set [] n x y e = absurd (cc)
own-set (z ∷ xs) zero x y e = refl
own-set (z ∷ xs) (suc n) x y e = own-set xs n x y e

module _ (d : Proved) (k k' : Track) (thread : ℕ) (event : Event) (after : Configuration)
    (top : TrackedFrame) (below : List TrackedFrame)
    (is : slice_get k.threads thread ≡ Some (top ∷ below)) where
  abbrev scene : Frame → Scene
  scene m = record {
    frame = m;
    after = after;
    thread = thread;
    top = top;
    below = below;
    regions = k.regions;
  }

  abbrev Kept : Type 0
  Kept =
      (fs : List TrackedFrame)
      × (slice_get k'.threads thread ≡ Some fs)
      × FramesGo event top below fs

  goes-by :
      (m : Option Frame) → followed d k thread event after m (Some (top ∷ below)) ≡ traced k' →
      Kept
  goes-by None e = absurd (cc)
  goes-by (Some m) e =
      let w = was-traced (moved d (scene m) event) (λ x. traced (after_move k thread x)) k' e in
      let i = subst (On (Goes d (scene m) event)) w.1 (moved-goes d (scene m) event) in
      let j = in-front (slice_set k.threads thread w.0.frames) (new_thread w.0.forked) thread
      w.0.frames (own-set k.threads thread w.0.frames (top ∷ below) is) in
      let q = traced-same (after_move k thread w.0) k' w.2 in
      (w.0.frames, subst (λ u. slice_get u.threads thread ≡ Some w.0.frames) q j, i)

pub frames-keep :
    (d : Proved) (k k' : Track) (thread : ℕ) (event : Event) (before after : Configuration) →
    follow d k thread event before after ≡ traced k' →
    (top : TrackedFrame) (below : List TrackedFrame) →
    slice_get k.threads thread ≡ Some (top ∷ below) →
    (fs : List TrackedFrame)
    × (slice_get k'.threads thread ≡ Some fs)
    × FramesGo event top below fs
frames-keep d k k' thread event before after e top below is =
    goes-by d k k' thread event after top below is
    (top_frame (slice_get before.threads thread))
    (ap (followed d k thread event after (top_frame (slice_get before.threads thread))) (sym is)
    ∙ e)
