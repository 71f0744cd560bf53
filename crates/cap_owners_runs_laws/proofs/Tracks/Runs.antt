-- The theorem, from what each statement leads to, from the start, and from what a kept track says.
use Rattle.std.proofs.Common.{◌≡◌, ℕ, zero, suc, ℤ, List, [], ◌∷◌, map, length, Option, Some, None, refl, sym, ap, ◌∙◌, arith}
use Rattle.std.specs.Prelude.{slice_get}
use Rattle.cap_prog.specs.Program.{PlainProgram, PlainFunction, set, read, write, cas, faa, dispose, alloc, call, fork, branch, loop, check, give_back, Block, done, first}
use Rattle.cap_prog.specs.WellFormed.{IsWellFormed}
use Rattle.cap_goal_spec.specs.Choices.{PlainTree}
use Rattle.cap_rules.specs.Valid.{Valid}
use Rattle.cap_machine.specs.declared.event.Entry.{Entry}
use Rattle.cap_machine.specs.declared.event.Event.{Event}
use Rattle.cap_machine.specs.Machine.{Heap, Thread, Configuration, Outcome, next, fault, disabled, thread_step, statement_step, step, start, IsPositive}
use Rattle.cap_machine_accounts.specs.Safety.{IfStepped}
use Rattle.cap_account_resources.proofs.Lists.{some-same, none-some, within, there-is, map-length}
use Rattle.cap_account_states.proofs.Checked.{Checked}
use Rattle.cap_account.proofs.Stocked.{spot_of}
use Rattle.cap_owners_spec.specs.Traced.{Traced, traced, past_width, untold}
use Rattle.cap_owners_spec.specs.Track.{TrackedFrame, Track, account_of}
use Rattle.cap_owners_spec.specs.Steps.{follow}
use Rattle.cap_owners_spec.specs.Start.{first_track}
use Rattle.cap_owners_laws.specs.Owned.{IsTold, IsTrackOf, GoesOver, IsOwnedFrom, IsTextual, RunsAreOwned}
use Rattle.cap_owners_runs_laws.proofs.Tracks.Tied.{nodes_of, derivation, Kept}
use Rattle.cap_owners_runs_laws.proofs.Tracks.Steps.{TurnKept, GoesKept, AllKept}

told-more :
    {A : Type 0} (P Q : A → Type 0) → ((x : A) → P x → Q x) → (o : Traced A) → IsTold P o → IsTold Q o
told-more P Q f (traced x) h = f x h
told-more P Q f past_width h = tt
told-more P Q f untold h = h

stepped-more :
    (P Q : Configuration → Event → Type 0) →
    ((c : Configuration) (event : Event) → P c event → Q c event) → (o : Outcome) →
    IfStepped P o → IfStepped Q o
stepped-more P Q f (next c event) h = f c event h
stepped-more P Q f (fault event) h = h
stepped-more P Q f disabled h = tt

mapped :
    {A B : Type 0} (f : A → B) (xs : List A) (i : ℕ) (x : A) → slice_get xs i ≡ Some x →
    slice_get (map f xs) i ≡ Some (f x)
mapped f [] i x e = absurd (none-some e)
mapped f (y ∷ xs) zero x e = ap (λ z. Some (f z)) (some-same y x e)
mapped f (y ∷ xs) (suc i) x e = mapped f xs i x e

-- whichever statement is next
module _ (p : Checked) (trees : List (Option PlainTree)) (all : AllKept p trees)
    (x : TurnKept p trees) where
  advance :
      (base : Option ℤ) (b : Block) → x.turn.frame.rest ≡ b →
      GoesKept p trees x (statement_step p.program (spot_of x.turn) base b)
  advance base done e = tt
  advance None (first l (alloc y n) b) e = tt
  advance (Some base) (first l (alloc y n) b) e = all.allocs x l b y n base e
  advance None (first l (set y t) b) e = all.sets x l b y t e
  advance None (first l (read y t) b) e = all.touches x l b (read y t) t refl e
  advance None (first l (write t u) b) e = all.touches x l b (write t u) t refl e
  advance None (first l (cas y t old new) b) e = all.touches x l b (cas y t old new) t refl e
  advance None (first l (faa y t u) b) e = all.touches x l b (faa y t u) t refl e
  advance None (first l (dispose t) b) e = all.touches x l b (dispose t) t refl e
  advance None (first l (call d n args) b) e = all.calls x l b d n args e
  advance None (first l (fork n args) b) e = all.forks x l b n args e
  advance None (first l (branch c a d) b) e = all.branches x l b c a d e
  advance None (first l (loop c i a) b) e = all.loops x l b c i a e
  advance None (first l (check c) b) e = all.checks x l b c e
  advance None (first l (give_back t) b) e = all.returns x l b t e
  advance (Some z) (first l (set y t) b) e = tt
  advance (Some z) (first l (read y t) b) e = tt
  advance (Some z) (first l (write t u) b) e = tt
  advance (Some z) (first l (cas y t old new) b) e = tt
  advance (Some z) (first l (faa y t u) b) e = tt
  advance (Some z) (first l (dispose t) b) e = tt
  advance (Some z) (first l (call d n args) b) e = tt
  advance (Some z) (first l (fork n args) b) e = tt
  advance (Some z) (first l (branch c a d) b) e = tt
  advance (Some z) (first l (loop c i a) b) e = tt
  advance (Some z) (first l (check c) b) e = tt
  advance (Some z) (first l (give_back t) b) e = tt

-- what a kept track says, and main's start
abbrev pub TrackLaw : Checked → List (Option PlainTree) → Type 0
TrackLaw p trees =
    (c : Configuration) (k : Track) → Kept p trees c k → IsTrackOf (derivation p trees) c k

abbrev pub FirstLaw : Checked → List (Option PlainTree) → Type 0
FirstLaw p trees =
    (main : PlainFunction) (args : List ℤ) (heap : Heap) (k : Track) →
    slice_get p.program.functions p.program.main ≡ Some main → length args ≡ main.params →
    IsPositive heap → first_track (derivation p trees) args heap ≡ traced (Some k) →
    Kept p trees (start p.program args heap) k

module _ (p : Checked) (trees : List (Option PlainTree)) (all : AllKept p trees)
    (says : TrackLaw p trees) where
  -- each track to which the step of this entry comes follows and is kept
  abbrev Leads : Configuration → Track → Entry → Outcome → Type 0
  Leads c k e o =
      IfStepped (λ after event.
      IsTold (λ later.
      GoesOver (derivation p trees) e.thread event c after k later × Kept p trees after later)
      (follow (derivation p trees) k e.thread event c after)) o

  thread-kept :
      (c : Configuration) (k : Track) (e : Entry) → Kept p trees c k → (t : Option Thread) →
      slice_get c.threads e.thread ≡ t → (ts : Option (List TrackedFrame)) →
      slice_get k.threads e.thread ≡ ts → Leads c k e (thread_step p.program c e t)
  thread-kept c k e h None x ts y = tt
  thread-kept c k e h (Some []) x ts y = tt
  thread-kept c k e h (Some (f ∷ fs)) x None y =
      let m = within c.threads e.thread (f ∷ fs) x in
      let n = h.sound.count in
      let q = map-length (map (λ (t : TrackedFrame). t.held)) k.threads in
      let j = there-is k.threads e.thread (omega (arith, m, n, q)) in
      absurd (none-some (sym y ∙ j.1))
  thread-kept c k e h (Some (f ∷ fs)) x (Some []) y =
      absurd (h.stacks e.thread (f ∷ fs) [] x y)
  thread-kept c k e h (Some (f ∷ fs)) x (Some (t ∷ ts)) y =
      advance p trees all (record {
        turn = record {
          c = c;
          a = account_of k;
          sound = h.sound;
          thread = e.thread;
          frame = f;
          below = fs;
          held = t.held;
          waiting = map (λ t. t.held) ts;
          has_frames = x;
          has_parts = mapped (map (λ (t : TrackedFrame). t.held)) k.threads e.thread (t ∷ ts) y;
        };
        track = k;
        account_is = refl;
        kept = h;
        top = t;
        below = ts;
        has_frames = y;
      }) e.base f.rest refl

  entry-kept :
      (c : Configuration) (k : Track) (e : Entry) → Kept p trees c k →
      Leads c k e (step p.program c e)
  entry-kept c k e h =
      thread-kept c k e h (slice_get c.threads e.thread) refl (slice_get k.threads e.thread) refl

  pub kept-owned :
      (es : List Entry) (c : Configuration) (k : Track) → Kept p trees c k →
      IsOwnedFrom (derivation p trees) es c k
  kept-owned [] c k h = says c k h
  kept-owned (e ∷ es) c k h = (
    says c k h,
    stepped-more
        (λ after event.
        IsTold (λ later.
        GoesOver (derivation p trees) e.thread event c after k later × Kept p trees after later)
        (follow (derivation p trees) k e.thread event c after))
        (λ after event.
        IsTold (λ later.
        GoesOver (derivation p trees) e.thread event c after k later
        × IsOwnedFrom (derivation p trees) es after later)
        (follow (derivation p trees) k e.thread event c after))
        (λ after event.
        told-more
        (λ later.
        GoesOver (derivation p trees) e.thread event c after k later × Kept p trees after later)
        (λ later.
        GoesOver (derivation p trees) e.thread event c after k later
        × IsOwnedFrom (derivation p trees) es after later)
        (λ later g. (g.0, kept-owned es after later g.1))
        (follow (derivation p trees) k e.thread event c after)) (step p.program c e)
        (entry-kept c k e h),
  )

-- ---- the theorem

-- the parts of the proof, for each valid derivation
pub record Parts (program : PlainProgram) (trees : List (Option PlainTree)) : Type 0 where
  pub all : AllKept (nodes_of program trees) trees
  pub says : TrackLaw (nodes_of program trees) trees
  pub begins : FirstLaw (nodes_of program trees) trees

pub runs-owned :
    ((program : PlainProgram) (trees : List (Option PlainTree)) → IsWellFormed program →
    IsTextual program → Valid program trees → Parts program trees) → RunsAreOwned
runs-owned parts program trees well textual valid main args heap k es is_main arity positive e =
    let q = parts program trees well textual valid in
    kept-owned (nodes_of program trees) trees q.all q.says es (start program args heap) k
    (q.begins main args heap k is_main arity positive e)
