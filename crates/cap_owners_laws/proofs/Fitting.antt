-- The track has a frame for each of the machine's, after each step.
use Rattle.std.proofs.Common.{◌≡◌, ℕ, zero, suc, ℤ, Bool, true, false, pos, List, [], ◌∷◌, ◌++◌, map, length, Option, Some, None, refl, sym, ap, subst, ◌∙◌}
use Rattle.std.specs.Prelude.{slice_get, slice_set, option_map, if◌then◌else◌}
use Rattle.cap_rules.specs.cap_goal_spec.cap_prog.Program.{Label, PlainAct, set, read, write, cas, faa, dispose, alloc, call, fork, branch, loop, check, give_back, Block, done, first, append, PlainFunction, PlainProgram}
use Rattle.cap_machine.specs.declared.event.Entry.{Entry}
use Rattle.cap_machine.specs.declared.event.Event.{Event}
use Rattle.cap_machine.specs.declared.event.Event.TheVariants.{Set, Read, Write, Cas, Faa, Dispose, Alloc, Call, Fork, Branch, Assert, Return, End, Bad, Failed}
use Rattle.std.specs.FinMap.{get, insert, remove}
use Rattle.cap_rules.specs.cap_goal_spec.cap_lin.Linear.{Linear}
use Rattle.cap_rules.specs.cap_goal_spec.cap_lin.declared.row.Op.TheVariants.{Eq as Equal}
use Rattle.cap_machine.specs.Machine as machine
use Rattle.cap_machine.specs.Machine.{Heap, Frame, Thread, Configuration, Outcome, next, fault, disabled, Spot, step}
use Rattle.cap_owners_spec.specs.Traced.{Traced, traced, past_width, untold, ◌>>=◌}
use Rattle.cap_owners_spec.specs.Track.{Fill, TrackedFrame, Track}
use Rattle.cap_owners_spec.specs.Walks.{Walk, Halt, stands, leaves}
use Rattle.cap_owners_spec.specs.Steps.{Proved, Moved, Scene, new_thread, after_move, standing, keeping, walk_of, seated, looping, ended_walk, hands_over, gives_result, stays_seated, takes_seat, tracks_call, tracks_fork, tracks_return, tracks_branch, moved, followed, follow, received}
use Rattle.cap_owners_laws.specs.Laws.{FitsThreads}
use Rattle.cap_owners_laws.proofs.Meetings.{On, on-bind, on-map}
use Rattle.cap_owners_laws.proofs.Steps.{was-traced, traced-same}

-- ---- the numbers of frames

map-set :
    {A : Type 0} (ts : List (List A)) (n : ℕ) (t : List A) →
    map length (slice_set ts n t) ≡ slice_set (map length ts) n (length t)
map-set [] n t = refl
map-set (u ∷ ts) zero t = refl
map-set (u ∷ ts) (suc n) t = ap (λ ns. length u ∷ ns) (map-set ts n t)

map-more :
    {A : Type 0} (ts us : List (List A)) →
    map length (ts ++ us) ≡ map length ts ++ map length us
map-more [] us = refl
map-more (t ∷ ts) us = ap (λ ns. length t ∷ ns) (map-more ts us)

no-more : {A : Type 0} (xs : List A) → xs ++ [] ≡ xs
no-more [] = refl
no-more (x ∷ xs) = ap (λ ys. x ∷ ys) (no-more xs)

-- after a step of a thread that has so many frames below its top one
abbrev counts_after : Event → ℕ → ℕ → List ℕ → List ℕ
counts_after Call n t ns = slice_set ns t (suc (suc n))
counts_after (Fork k) n t ns = slice_set ns t (suc n) ++ 1 ∷ []
counts_after (Return v) n t ns = slice_set ns t n
counts_after (End v) n t ns = slice_set ns t n
counts_after event n t ns = slice_set ns t (suc n)

-- ---- the machine

abbrev counts : Configuration → List ℕ
counts c = map length c.threads

abbrev IsCounted : Spot → Outcome → Type 0
IsCounted s (next c event) =
    counts c ≡ counts_after event (length s.below) s.thread (counts s.configuration)
IsCounted s (fault event) = Unit {0}
IsCounted s disabled = Unit {0}

module _ (s : Spot) where
  set-counts :
      (frames : List Frame) →
      map length (slice_set s.configuration.threads s.thread frames)
      ≡ slice_set (counts s.configuration) s.thread (length frames)
  set-counts frames = map-set s.configuration.threads s.thread frames

  counted-if :
      (b : Bool) (x y : Outcome) → IsCounted s x → IsCounted s y →
      IsCounted s (if b then x else y)
  counted-if true x y h k = h
  counted-if false x y h k = k

  counted-cell :
      (a : ℤ) (o : Option ℤ) (f : ℤ → Outcome) → ((v : ℤ) → IsCounted s (f v)) →
      IsCounted s (machine.at_cell a o f)
  counted-cell a None f h = tt
  counted-cell a (Some v) f h = h v

  counted-alloc :
      (rest : Block) (x n : ℕ) (base : Option ℤ) →
      IsCounted s (machine.allocates s rest x n base)
  counted-alloc rest x n None = tt
  counted-alloc rest x n (Some b) =
      counted-if (machine.may_be_at s.configuration.heap b n)
      (machine.sets s (machine.with_cells s.configuration.heap b n) rest x b (Alloc b)) disabled
      (set-counts
      (machine.with_value (machine.with_rest s.frame rest) x b ∷ s.below)) tt

  counted-call :
      (rest : Block) (n : ℕ) (args : List ℤ) (x : Option ℕ) (o : Option PlainFunction) →
      IsCounted s (machine.calls s rest n args x o)
  counted-call rest n args x None = tt
  counted-call rest n args x (Some f) = set-counts _

  counted-fork :
      (rest : Block) (n : ℕ) (args : List ℤ) (o : Option PlainFunction) →
      IsCounted s (machine.forks s rest n args o)
  counted-fork rest n args None = tt
  counted-fork rest n args (Some f) =
      map-more
      (slice_set s.configuration.threads s.thread (machine.with_rest s.frame rest ∷ s.below))
      ((machine.new_frame n f args None ∷ []) ∷ [])
      ∙ ap (λ ns. ns ++ 1 ∷ []) (set-counts (machine.with_rest s.frame rest ∷ s.below))

counted-return :
    (t : ℕ) (f : Frame) (below : List Frame) (c : Configuration) (v : ℤ) →
    IsCounted (record { thread = t; frame = f; below = below; configuration = c })
    (machine.returns (record { thread = t; frame = f; below = below; configuration = c }) v below)
counted-return t f [] c v = map-set c.threads t []
counted-return t f (g ∷ below) c v = map-set c.threads t _

-- the frames where the top one has these statements left, and perhaps a local has a value
abbrev passing : Spot → Block → List Frame
passing s rest = machine.with_rest s.frame rest ∷ s.below

abbrev setting : Spot → Block → ℕ → ℤ → List Frame
setting s rest x v = machine.with_value (machine.with_rest s.frame rest) x v ∷ s.below

module _ (p : PlainProgram) (s : Spot) where
  abbrev value : Linear → ℤ
  value t = machine.value_in s.frame.store t

  abbrev heap : Heap
  heap = s.configuration.heap

  counted-swap :
      (rest : Block) (x : ℕ) (a old new v : ℤ) →
      IsCounted s (machine.swaps s rest x a old new v)
  counted-swap rest x a old new v =
      counted-if s (machine.compared Equal v old)
      (machine.sets s (insert heap a new) rest x (pos 1) (Cas a true))
      (machine.sets s heap rest x (pos 0) (Cas a false))
      (set-counts s (setting s rest x (pos 1))) (set-counts s (setting s rest x (pos 0)))

  counted-branch :
      (b : Bool) (one two : Block) →
      IsCounted s
      (if b then machine.passes s heap one (Branch true)
      else machine.passes s heap two (Branch false))
  counted-branch b one two =
      counted-if s b (machine.passes s heap one (Branch true))
      (machine.passes s heap two (Branch false)) (set-counts s (passing s one))
      (set-counts s (passing s two))

  counted-act :
      (l : Label) (a : PlainAct) (rest : Block) (base : Option ℤ) →
      IsCounted s (machine.does p s l a rest base)
  counted-act l (set x t) rest base = set-counts s (setting s rest x (value t))
  counted-act l (read x t) rest base =
      counted-cell s (value t) (get heap (value t))
      (λ v. machine.sets s heap rest x v (Read (value t) v))
      (λ v. set-counts s (setting s rest x v))
  counted-act l (write t u) rest base =
      counted-cell s (value t) (get heap (value t))
      (λ v. machine.passes s (insert heap (value t) (value u)) rest (Write (value t) (value u)))
      (λ v. set-counts s (passing s rest))
  counted-act l (cas x t u v) rest base =
      counted-cell s (value t) (get heap (value t))
      (machine.swaps s rest x (value t) (value u) (value v))
      (counted-swap rest x (value t) (value u) (value v))
  counted-act l (faa x t u) rest base =
      counted-cell s (value t) (get heap (value t)) (machine.adds s rest x (value t) (value u))
      (λ v. set-counts s (setting s rest x v))
  counted-act l (dispose t) rest base =
      counted-cell s (value t) (get heap (value t))
      (λ v. machine.passes s (remove heap (value t)) rest (Dispose (value t)))
      (λ v. set-counts s (passing s rest))
  counted-act l (alloc x n) rest base = counted-alloc s rest x n base
  counted-act l (call x n args) rest base =
      counted-call s rest n (map (machine.value_in s.frame.store) args) x
      (slice_get p.functions n)
  counted-act l (fork n args) rest base =
      counted-fork s rest n (map (machine.value_in s.frame.store) args) (slice_get p.functions n)
  counted-act l (branch c a b) rest base =
      counted-branch (machine.holds s.frame.store c) (append a rest) (append b rest)
  counted-act l (loop c i a) rest base =
      counted-branch (machine.holds s.frame.store c) (append a (first l (loop c i a) rest)) rest
  counted-act l (check c) rest base =
      counted-if s (machine.holds s.frame.store c) (machine.passes s heap rest Assert)
      (fault (Failed l.place)) (set-counts s (passing s rest)) tt
  counted-act l (give_back t) rest base =
      counted-return s.thread s.frame s.below s.configuration (value t)

  counted-statement :
      (base : Option ℤ) (b : Block) → IsCounted s (machine.statement_step p s base b)
  counted-statement base done = tt
  counted-statement base (first l a rest) =
      counted-if s (machine.takes_base a base) (machine.does p s l a rest base) disabled
      (counted-act l a rest base) tt

-- ---- the track

on-any : {A : Type 0} (o : Traced A) → On (λ x. Unit {0}) o
on-any (traced x) = tt
on-any past_width = tt
on-any untold = tt

pub on-after :
    {A B : Type 0} (Q : B → Type 0) (o : Traced A) (f : A → Traced B) →
    ((x : A) → On Q (f x)) → On Q (o >>= f)
on-after Q o f h = on-bind (λ x. Unit {0}) Q o f (on-any o) (λ x u. h x)

-- so many frames, and perhaps a new thread
record HasMoved (n : ℕ) (new : List ℕ) (x : Moved) : Type 0 where
  pub frames : length x.frames ≡ n
  pub forked : map length (new_thread x.forked) ≡ new

module _ (d : Proved) (s : Scene) where
  seated-counts :
      (event : Event) → On (HasMoved (suc (length s.below)) []) (stays_seated d s event)
  seated-counts event =
      on-after (HasMoved (suc (length s.below)) []) (walk_of d false s event)
      (λ h. keeping d (record s.top { since = s.top.since ++ event ∷ [] }) h >>= λ f.
      traced (record { frames = f ∷ s.below; forked = None; regions = s.regions }))
      (λ h. on-after (HasMoved (suc (length s.below)) [])
      (keeping d (record s.top { since = s.top.since ++ event ∷ [] }) h)
      (λ f. traced (record { frames = f ∷ s.below; forked = None; regions = s.regions }))
      (λ f. record { frames = refl; forked = refl }))

  seat-counts :
      (event : Event) → On (HasMoved (suc (length s.below)) []) (takes_seat d s event)
  seat-counts event =
      on-after (HasMoved (suc (length s.below)) []) (walk_of d true s event)
      (λ h. seated s.top h >>= λ x. (standing d x.1.regions x.0 >>= λ f.
      traced (record { frames = f ∷ s.below; forked = None; regions = x.1.regions })))
      (λ h. on-after (HasMoved (suc (length s.below)) []) (seated s.top h)
      (λ x. standing d x.1.regions x.0 >>= λ f.
      traced (record { frames = f ∷ s.below; forked = None; regions = x.1.regions }))
      (λ x. on-after (HasMoved (suc (length s.below)) []) (standing d x.1.regions x.0)
      (λ f. traced (record {
        frames = f ∷ s.below;
        forked = None;
        regions = x.1.regions;
      }))
      (λ f. record { frames = refl; forked = refl })))

  call-counts : On (HasMoved (suc (suc (length s.below))) []) (tracks_call d s)
  call-counts =
      on-after (HasMoved (suc (suc (length s.below))) [])
      (hands_over d s Call (machine.top_frame (slice_get s.after.threads s.thread)))
      (λ x. traced (record {
        frames = x.callee ∷ x.caller ∷ s.below;
        forked = None;
        regions = x.regions;
      }))
      (λ x. record { frames = refl; forked = refl })

  fork-counts : (k : ℕ) → On (HasMoved (suc (length s.below)) (1 ∷ [])) (tracks_fork d s k)
  fork-counts k =
      on-after (HasMoved (suc (length s.below)) (1 ∷ []))
      (hands_over d s (Fork k) (machine.top_frame (slice_get s.after.threads k)))
      (λ x. traced (record {
        frames = x.caller ∷ s.below;
        forked = Some x.callee;
        regions = x.regions;
      }))
      (λ x. record { frames = refl; forked = refl })

  result-counts :
      (v : ℤ) (below : List TrackedFrame) (x : Fill × Walk) →
      On (λ fs. length fs ≡ length below) (gives_result d s v below x)
  result-counts v [] x = refl
  result-counts v (c ∷ below) x =
      on-after (λ fs. length fs ≡ suc (length below))
      (standing d x.1.regions (received d s v c x.0)) (λ f. traced (f ∷ below)) (λ f. refl)

  return-counts :
      (event : Event) (v : ℤ) → On (HasMoved (length s.below) []) (tracks_return d s event v)
  return-counts event v =
      on-after (HasMoved (length s.below) []) (walk_of d false s event)
      (λ h. ended_walk h >>= λ x. (gives_result d s v s.below x >>= λ fs.
      traced (record { frames = fs; forked = None; regions = x.1.regions })))
      (λ h. on-after (HasMoved (length s.below) []) (ended_walk h)
      (λ x. gives_result d s v s.below x >>= λ fs.
      traced (record { frames = fs; forked = None; regions = x.1.regions }))
      (λ x. on-bind (λ fs. length fs ≡ length s.below) (HasMoved (length s.below) [])
      (gives_result d s v s.below x)
      (λ fs. traced (record { frames = fs; forked = None; regions = x.1.regions }))
      (result-counts v s.below x) (λ fs e. record { frames = e; forked = refl })))

  branch-counts :
      (event : Event) (h : Halt) →
      On (HasMoved (suc (length s.below)) []) (tracks_branch d s event h)
  branch-counts event (stands q w) = seated-counts event
  branch-counts event (leaves w) =
      on-after (HasMoved (suc (length s.below)) []) (ended_walk (leaves w))
      (λ x. looping d s.frame s.top event x.0 >>= λ g. (standing d w.regions g >>= λ f.
      traced (record { frames = f ∷ s.below; forked = None; regions = w.regions })))
      (λ x. on-after (HasMoved (suc (length s.below)) []) (looping d s.frame s.top event x.0)
      (λ g. standing d w.regions g >>= λ f.
      traced (record { frames = f ∷ s.below; forked = None; regions = w.regions }))
      (λ g. on-after (HasMoved (suc (length s.below)) []) (standing d w.regions g)
      (λ f. traced (record { frames = f ∷ s.below; forked = None; regions = w.regions }))
      (λ f. record { frames = refl; forked = refl })))

-- ---- both

module _ (d : Proved) (s : Scene) (k : Track) where
  moved-set :
      (n : ℕ) (new : List ℕ) (x : Moved) → HasMoved n new x →
      map length (after_move k s.thread x).threads
      ≡ slice_set (map length k.threads) s.thread n ++ new
  moved-set n new x h =
      map-more (slice_set k.threads s.thread x.frames) (new_thread x.forked)
      ∙ (ap (λ ns. ns ++ map length (new_thread x.forked))
      (map-set k.threads s.thread x.frames
      ∙ ap (slice_set (map length k.threads) s.thread) h.frames)
      ∙ ap (λ ns. slice_set (map length k.threads) s.thread n ++ ns) h.forked)

  moved-one :
      (n : ℕ) (x : Moved) → HasMoved n [] x →
      map length (after_move k s.thread x).threads
      ≡ slice_set (map length k.threads) s.thread n
  moved-one n x h = moved-set n [] x h ∙ no-more (slice_set (map length k.threads) s.thread n)

  abbrev Counted : Event → Moved → Type 0
  Counted event x =
      map length (after_move k s.thread x).threads
      ≡ counts_after event (length s.below) s.thread (map length k.threads)

  abbrev one : ℕ
  one = suc (length s.below)

  moved-counts : (event : Event) → On (Counted event) (moved d s event)
  moved-counts (Set v) =
      on-map (HasMoved one []) (Counted (Set v)) (stays_seated d s (Set v)) (moved-one one)
      (seated-counts d s (Set v))
  moved-counts (Alloc b) =
      on-map (HasMoved one []) (Counted (Alloc b)) (stays_seated d s (Alloc b)) (moved-one one)
      (seated-counts d s (Alloc b))
  moved-counts Assert =
      on-map (HasMoved one []) (Counted Assert) (stays_seated d s Assert) (moved-one one)
      (seated-counts d s Assert)
  moved-counts (Branch taken) =
      on-after (Counted (Branch taken)) (walk_of d false s (Branch taken))
      (tracks_branch d s (Branch taken))
      (λ h. on-map (HasMoved one []) (Counted (Branch taken))
      (tracks_branch d s (Branch taken) h) (moved-one one)
      (branch-counts d s (Branch taken) h))
  moved-counts (Read a v) =
      on-map (HasMoved one []) (Counted (Read a v)) (takes_seat d s (Read a v)) (moved-one one)
      (seat-counts d s (Read a v))
  moved-counts (Write a v) =
      on-map (HasMoved one []) (Counted (Write a v)) (takes_seat d s (Write a v)) (moved-one one)
      (seat-counts d s (Write a v))
  moved-counts (Cas a b) =
      on-map (HasMoved one []) (Counted (Cas a b)) (takes_seat d s (Cas a b)) (moved-one one)
      (seat-counts d s (Cas a b))
  moved-counts (Faa a v) =
      on-map (HasMoved one []) (Counted (Faa a v)) (takes_seat d s (Faa a v)) (moved-one one)
      (seat-counts d s (Faa a v))
  moved-counts (Dispose a) =
      on-map (HasMoved one []) (Counted (Dispose a)) (takes_seat d s (Dispose a)) (moved-one one)
      (seat-counts d s (Dispose a))
  moved-counts Call =
      on-map (HasMoved (suc one) []) (Counted Call) (tracks_call d s) (moved-one (suc one))
      (call-counts d s)
  moved-counts (Fork j) =
      on-map (HasMoved one (1 ∷ [])) (Counted (Fork j)) (tracks_fork d s j)
      (moved-set one (1 ∷ [])) (fork-counts d s j)
  moved-counts (Return v) =
      on-map (HasMoved (length s.below) []) (Counted (Return v))
      (tracks_return d s (Return v) v) (moved-one (length s.below))
      (return-counts d s (Return v) v)
  moved-counts (End v) =
      on-map (HasMoved (length s.below) []) (Counted (End v)) (tracks_return d s (End v) v)
      (moved-one (length s.below)) (return-counts d s (End v) v)
  moved-counts (Bad a) = tt
  moved-counts (Failed place) = tt

get-map :
    {A B : Type 0} (f : A → B) (xs : List A) (i : ℕ) (x : A) → slice_get xs i ≡ Some x →
    slice_get (map f xs) i ≡ Some (f x)
get-map f [] i x e = absurd (cc)
get-map f (y ∷ xs) zero x e = ap (option_map f) e
get-map f (y ∷ xs) (suc i) x e = get-map f xs i x e

count-same : (m n : ℕ) → Some (suc m) ≡ Some (suc n) → m ≡ n
count-same m n e = cc

module _ (d : Proved) (k k' : Track) (e : Entry) (event : Event) (c c' : Configuration)
    (fits : FitsThreads c k) where
  abbrev spot : Frame → List Frame → Spot
  spot f fs = record { thread = e.thread; frame = f; below = fs; configuration = c }

  abbrev scene : Frame → TrackedFrame → List TrackedFrame → Scene
  scene f top below = record {
    frame = f;
    after = c';
    thread = e.thread;
    top = top;
    below = below;
    regions = k.regions;
  }

  below-same :
      (f : Frame) (fs : List Frame) (top : TrackedFrame) (below : List TrackedFrame) →
      slice_get c.threads e.thread ≡ Some (f ∷ fs) →
      slice_get k.threads e.thread ≡ Some (top ∷ below) → length below ≡ length fs
  below-same f fs top below g h =
      count-same (length below) (length fs)
      (sym (get-map length k.threads e.thread (top ∷ below) h)
      ∙ (ap (λ ns. slice_get ns e.thread) fits
      ∙ get-map length c.threads e.thread (f ∷ fs) g))

  fits-by :
      (o : Option Thread) (q : Option (List TrackedFrame)) →
      slice_get c.threads e.thread ≡ o → slice_get k.threads e.thread ≡ q →
      machine.thread_step d.program c e o ≡ next c' event →
      followed d k e.thread event c' (machine.top_frame o) q ≡ traced k' → FitsThreads c' k'
  fits-by None q g h s t = absurd (cc)
  fits-by (Some []) q g h s t = absurd (cc)
  fits-by (Some (f ∷ fs)) None g h s t = absurd (cc)
  fits-by (Some (f ∷ fs)) (Some []) g h s t = absurd (cc)
  fits-by (Some (f ∷ fs)) (Some (top ∷ below)) g h s t =
      let w = was-traced (moved d (scene f top below) event)
      (λ x. traced (after_move k e.thread x)) k' t in
      let i = subst (On (Counted d (scene f top below) k event)) w.1
      (moved-counts d (scene f top below) k event) in
      let j = subst (IsCounted (spot f fs)) s
      (counted-statement d.program (spot f fs) e.base f.rest) in
      ap (λ u. map length u.threads) (sym (traced-same (after_move k e.thread w.0) k' w.2))
      ∙ (i
      ∙ (ap (λ n. counts_after event n e.thread (map length k.threads))
      (below-same f fs top below g h)
      ∙ (ap (counts_after event (length fs) e.thread) fits ∙ sym j)))

  pub fits-after :
      step d.program c e ≡ next c' event → follow d k e.thread event c c' ≡ traced k' →
      FitsThreads c' k'
  fits-after s t =
      fits-by (slice_get c.threads e.thread) (slice_get k.threads e.thread) refl refl s t
