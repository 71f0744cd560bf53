-- A fork: a new thread's frame gets what is taken for it, and the forking one goes on.
use Rattle.std.proofs.Common.{◌≡◌, ℕ, zero, suc, ℤ, List, [], ◌∷◌, ◌++◌, map, length, Option, Some, None, refl, sym, ap, ◌∙◌, subst, arith}
use Rattle.std.specs.Prelude.{slice_get, slice_set}
use Rattle.cap_prog.specs.Program.{Block, PlainFunction}
use Rattle.cap_goal_spec.specs.Choices.{PlainTree}
use Rattle.cap_machine.specs.Machine.{Thread, Configuration, top_frame, with_rest, new_frame, forks}
use Rattle.cap_machine.specs.declared.event.Event.TheVariants.{Fork}
use Rattle.cap_machine_accounts.specs.Parts.{Part}
use Rattle.cap_machine_accounts.specs.Assertions.{NameValue}
use Rattle.cap_account_resources.specs.Parts.{Table}
use Rattle.cap_account_resources.proofs.Lists.{some-same, none-some, map-length, map-join, map-set, set-length}
use Rattle.cap_account_resources.proofs.Stocks.{Stock}
use Rattle.cap_account_states.proofs.Checked.{Checked}
use Rattle.cap_account_steps.proofs.Regained.{Stable}
use Rattle.cap_account_steps.proofs.Frames.{Stands, Hands}
use Rattle.cap_account_steps.proofs.Statements.{Statements}
use Rattle.cap_account.proofs.Stocked.{part_stock, account_table, callee_of, Turn, spot_of}
use Rattle.cap_account.proofs.Successors.{Stride, cut}
use Rattle.cap_account.proofs.Strides.{handing}
use Rattle.cap_account.proofs.Handing.{callee-is, caller-is, started}
use Rattle.cap_owners_spec.specs.Traced.{Traced, traced, past_width, untold, ◌>>=◌}
use Rattle.cap_owners_spec.specs.Track.{TrackedRegion, TrackedFrame, Track, account_of}
use Rattle.cap_owners_spec.specs.Steps.{Proved, Moved, Scene, Handed, hands_over, after_move, followed, follow}
use Rattle.cap_owners_laws.specs.Owned.{IsTold, GoesOver}
use Rattle.cap_owners_walks_laws.proofs.Parts.Telling.{told-on}
use Rattle.cap_owners_runs_laws.proofs.Tracks.Tied.{derivation, Tied, AllWaitTied, StackTied, Kept}
use Rattle.cap_owners_runs_laws.proofs.Tracks.Steps.{TurnKept, GoesKept}
use Rattle.cap_owners_runs_laws.proofs.Tracks.Turns.{own}
use Rattle.cap_owners_runs_laws.proofs.Tracks.Later.{below-tied, threads-tied}
use Rattle.cap_owners_runs_laws.proofs.Steps.Stepping.{same-stock}
use Rattle.cap_owners_runs_laws.proofs.Steps.Making.{MadeSo, made-goes}

-- two lists with one element more each
each-push :
    {A B : Type 0} (R : A → B → Type 0) (xs : List A) (ys : List B) (x : A) (y : B) →
    length xs ≡ length ys →
    ((j : ℕ) (u : A) (v : B) → slice_get xs j ≡ Some u → slice_get ys j ≡ Some v → R u v) →
    R x y →
    (j : ℕ) (u : A) (v : B) → slice_get (xs ++ x ∷ []) j ≡ Some u →
    slice_get (ys ++ y ∷ []) j ≡ Some v → R u v
each-push R [] [] x y l f r zero u v e k =
    subst (λ z. R z v) (some-same x u e) (subst (R x) (some-same y v k) r)
each-push R [] [] x y l f r (suc j) u v e k = absurd (none-some e)
each-push R [] (b ∷ ys) x y l f r j u v e k = absurd (omega (arith, l))
each-push R (a ∷ xs) [] x y l f r j u v e k = absurd (omega (arith, l))
each-push R (a ∷ xs) (b ∷ ys) x y l f r zero u v e k = f 0 u v e k
each-push R (a ∷ xs) (b ∷ ys) x y l f r (suc j) u v e k =
    each-push R xs ys x y (omega (arith, l)) (λ n w z. f (suc n) w z) r j u v e k

-- ---- the step of the track

module _ (p : Checked) (trees : List (Option PlainTree)) (x : TurnKept p trees) (n : ℕ)
    (g : PlainFunction) (args : List ℤ) (b : Block) where
  abbrev pub forked_after : Configuration
  forked_after = record {
    heap = x.turn.c.heap;
    threads = slice_set x.turn.c.threads x.turn.thread
        (with_rest x.turn.frame b ∷ x.turn.below) ++ (new_frame n g args None ∷ []) ∷ [];
  }

  abbrev pub forked_scene : Scene
  forked_scene = record {
    frame = x.turn.frame;
    after = forked_after;
    thread = x.turn.thread;
    top = x.top;
    below = x.below;
    regions = x.track.regions;
  }

  abbrev pub forked_track : Handed → Track
  forked_track z = after_move x.track x.turn.thread (record {
    frames = z.caller ∷ x.below;
    forked = Some z.callee;
    regions = z.regions;
  })

  -- it goes on from what is handed over
  pub forked-follows :
      follow (derivation p trees) x.track x.turn.thread (Fork (length x.turn.c.threads)) x.turn.c
      forked_after
      ≡ (hands_over (derivation p trees) forked_scene (Fork (length x.turn.c.threads))
      (top_frame (slice_get forked_after.threads (length x.turn.c.threads)))
      >>= λ z. traced (forked_track z))
  forked-follows =
      (λ i. followed (derivation p trees) x.track x.turn.thread
      (Fork (length x.turn.c.threads)) forked_after (top_frame (x.turn.has_frames i))
      (x.has_frames i))
      ∙ told-last (hands_over (derivation p trees) forked_scene (Fork (length x.turn.c.threads))
      (top_frame (slice_get forked_after.threads (length x.turn.c.threads))))
    where
      told-last :
          (o : Traced Handed) →
          ((o >>= λ z. traced (record {
            frames = z.caller ∷ x.below;
            forked = Some z.callee;
            regions = z.regions;
          }))
          >>= λ (m : Moved). traced (after_move x.track x.turn.thread m))
          ≡ (o >>= λ z. traced (forked_track z))
      told-last (traced z) = refl
      told-last past_width = refl
      told-last untold = refl

  -- where that is too wide, nothing follows
  pub forked-wide :
      hands_over (derivation p trees) forked_scene (Fork (length x.turn.c.threads))
      (top_frame (slice_get forked_after.threads (length x.turn.c.threads)))
      ≡ past_width →
      GoesKept p trees x (forks (spot_of x.turn) b n args (Some g))
  forked-wide wide =
      let Q = λ (k : Track). GoesOver (derivation p trees) x.turn.thread
      (Fork (length x.turn.c.threads)) x.turn.c forked_after x.track k
      × Kept p trees forked_after k in
      subst (IsTold Q)
      (sym (forked-follows ∙ ap (λ o. o >>= λ z. traced (forked_track z)) wide)) tt

-- ---- what it keeps

module _ (p : Checked) (trees : List (Option PlainTree)) (ls : Statements p)
    (stable : Stable p.program) (x : TurnKept p trees) (n : ℕ) (g : PlainFunction)
    (is_g : slice_get p.program.functions n ≡ Some g) (args : List ℤ)
    (arity : length args ≡ g.params) (b : Block)
    (h : Hands p (part_stock x.top.held.part) (account_table (account_of x.track)) g args
    (λ kept U fixed. Stands p kept U x.top.held.fixed (with_rest x.turn.frame b)))
    (made : List TrackedRegion)
    (so : MadeSo p trees h.over.U h.over.new x.track.regions made) (caller callee : TrackedFrame)
    (kept_is : part_stock caller.held.part ≡ h.kept)
    (fixed_is : caller.held.fixed ≡ x.top.held.fixed)
    (given_is : part_stock callee.held.part ≡ h.given) (names_are : callee.held.fixed ≡ h.fixed)
    (goes :
    Tied p trees h.kept h.over.U x.top.held.fixed (with_rest x.turn.frame b) caller)
    (begun : Tied p trees h.given h.over.U h.fixed (new_frame n g args None) callee) where
  abbrev d : Proved
  d = derivation p trees

  abbrev turn : Turn p
  turn = own p trees x

  abbrev y : Stride p (own p trees x)
  y = handing p (own p trees x) h.kept h.given h.over

  abbrev U : Table
  U = h.over.U

  abbrev K : Stock → Table → List NameValue → Type 0
  K kept U fixed = Stands p kept U x.top.held.fixed (with_rest x.turn.frame b)

  abbrev pub fs : Thread
  fs = with_rest x.turn.frame b ∷ x.turn.below

  abbrev ts : List TrackedFrame
  ts = caller ∷ x.below

  abbrev after : Configuration
  after = forked_after p trees x n g args b

  abbrev moves : Scene
  moves = forked_scene p trees x n g args b

  abbrev later : Track
  later = record {
    regions = x.track.regions ++ made;
    threads =
        slice_set x.track.threads x.turn.thread (caller ∷ x.below) ++ (callee ∷ []) ∷ [];
  }

  held-are :
      {q : Stock} (part : Part) (fixed : List NameValue) (t : TrackedFrame) →
      part_stock part ≡ q → part_stock t.held.part ≡ q → t.held.fixed ≡ fixed →
      record { part = part; fixed = fixed } ≡ t.held
  held-are part fixed t e k f i = record {
    part = same-stock part t.held.part (e ∙ sym k) i;
    fixed = sym f i;
  }

  threads-same :
      slice_set (account_of x.track).threads x.turn.thread
      (record { part = cut p stable turn y h.kept; fixed = x.top.held.fixed }
      ∷ map (λ t. t.held) x.below)
      ++ (record { part = cut p stable turn y h.given; fixed = h.fixed } ∷ []) ∷ []
      ≡ map (map (λ f. f.held))
      (slice_set x.track.threads x.turn.thread (caller ∷ x.below) ++ (callee ∷ []) ∷ [])
  threads-same =
      let first = held-are (cut p stable turn y h.given) h.fixed callee
      (callee-is p ls stable turn n g is_g args arity K h) given_is names_are in
      let second = held-are (cut p stable turn y h.kept) x.top.held.fixed caller
      (caller-is p ls stable turn n g is_g args arity K h) kept_is fixed_is in
      (λ i. slice_set (account_of x.track).threads x.turn.thread
      (second i ∷ map (λ t. t.held) x.below) ++ (first i ∷ []) ∷ [])
      ∙ ap (λ hss. hss ++ (callee.held ∷ []) ∷ [])
      (sym (map-set (map (λ (t : TrackedFrame). t.held)) x.track.threads x.turn.thread ts))
      ∙ sym (map-join (map (λ (t : TrackedFrame). t.held))
      (slice_set x.track.threads x.turn.thread ts) ((callee ∷ []) ∷ []))

  tied-callee :
      Tied p trees (part_stock callee.held.part) h.over.U callee.held.fixed
      (new_frame n g args None) callee
  tied-callee =
      subst (λ q. Tied p trees q U callee.held.fixed (new_frame n g args None) callee)
      (sym given_is)
      (subst (λ zs. Tied p trees h.given U zs (new_frame n g args None) callee)
      (sym names_are) begun)

  tied-caller :
      Tied p trees (part_stock caller.held.part) h.over.U caller.held.fixed
      (with_rest x.turn.frame b) caller
  tied-caller =
      subst (λ q. Tied p trees q U caller.held.fixed (with_rest x.turn.frame b) caller)
      (sym kept_is)
      (subst (λ zs. Tied p trees h.kept U zs (with_rest x.turn.frame b) caller) (sym fixed_is)
      goes)

  tied-below :
      AllWaitTied p trees h.over.U (callee_of (with_rest x.turn.frame b) caller.held) x.turn.below
      x.below
  tied-below =
      subst (λ zs. AllWaitTied p trees U (record {
        destination = x.turn.frame.destination;
        function = x.turn.frame.function;
        arguments = x.turn.frame.arguments;
        fixed = zs;
      })
      x.turn.below x.below) (sym fixed_is) (below-tied p trees stable x y)

  same-count :
      length (slice_set x.turn.c.threads x.turn.thread fs)
      ≡ length (slice_set x.track.threads x.turn.thread ts)
  same-count =
      set-length x.turn.c.threads x.turn.thread fs
      ∙ sym x.kept.sound.count
      ∙ map-length (map (λ (t : TrackedFrame). t.held)) x.track.threads
      ∙ sym (set-length x.track.threads x.turn.thread ts)

  -- the track hands it over so
  pub forked-kept :
      IsTold (λ z. z ≡ record {
        caller = caller;
        callee = callee;
        regions = x.track.regions ++ made;
      })
      (hands_over (derivation p trees) (forked_scene p trees x n g args b)
      (Fork (length x.turn.c.threads))
      (top_frame
      (slice_get (forked_after p trees x n g args b).threads (length x.turn.c.threads)))) →
      GoesKept p trees x (forks (spot_of x.turn) b n args (Some g))
  forked-kept told =
      let event = Fork (length x.turn.c.threads) in
      let Q = λ (k : Track).
      GoesOver d x.turn.thread event x.turn.c after x.track k × Kept p trees after k in
      let track_of = forked_track p trees x n g args b in
      let went = started p ls stable turn n g is_g args arity K h b h.goes_on in
      let o = hands_over d moves event
      (top_frame (slice_get after.threads (length x.turn.c.threads))) in
      subst (IsTold Q) (sym (forked-follows p trees x n g args b))
      (told-on (λ z. z ≡ record {
        caller = caller;
        callee = callee;
        regions = x.track.regions ++ made;
      })
      Q o (λ z. traced (track_of z)) told
      (λ z e. subst (λ z. Q (track_of z)) (sym e)
      (made-goes p trees stable x y refl made so after event
      (slice_set (account_of x.track).threads x.turn.thread
      (record { part = cut p stable turn y h.kept; fixed = x.top.held.fixed }
      ∷ map (λ t. t.held) x.below)
      ++ (record { part = cut p stable turn y h.given; fixed = h.fixed } ∷ []) ∷ [])
      (slice_set x.track.threads x.turn.thread ts ++ (callee ∷ []) ∷ []) threads-same
      (went.1, went.2, went.3, went.4)
      (each-push (StackTied p trees U) (slice_set x.turn.c.threads x.turn.thread fs)
      (slice_set x.track.threads x.turn.thread ts) (new_frame n g args None ∷ []) (callee ∷ [])
      same-count (threads-tied p trees stable x y fs ts (tied-caller, tied-below))
      (tied-callee, tt)))))
