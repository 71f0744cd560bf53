-- A call: the callee gets what is taken for it, and the caller waits.
use Rattle.std.proofs.Common.{◌≡◌, ℕ, ℤ, List, [], ◌∷◌, ◌++◌, map, length, Option, Some, None, refl, sym, ap, ◌∙◌, subst}
use Rattle.std.specs.Prelude.{slice_get, slice_set}
use Rattle.cap_prog.specs.Program.{Block, PlainFunction}
use Rattle.cap_goal_spec.specs.Choices.{PlainTree}
use Rattle.cap_machine.specs.Machine.{Thread, Configuration, top_frame, with_rest, new_frame, calls}
use Rattle.cap_machine.specs.declared.event.Event.TheVariants.{Call}
use Rattle.cap_machine_accounts.specs.Parts.{Part}
use Rattle.cap_machine_accounts.specs.Assertions.{NameValue}
use Rattle.cap_account_resources.specs.Parts.{Table}
use Rattle.cap_account_resources.proofs.Lists.{join-nil, map-set}
use Rattle.cap_account_resources.proofs.Stocks.{Stock}
use Rattle.cap_account_states.proofs.Checked.{Checked}
use Rattle.cap_account_steps.proofs.Regained.{Stable}
use Rattle.cap_account_steps.proofs.Frames.{Waits, Hands}
use Rattle.cap_account_steps.proofs.Statements.{Statements}
use Rattle.cap_account.proofs.Stocked.{part_stock, account_table, callee_of, Turn, spot_of}
use Rattle.cap_account.proofs.Successors.{Stride, cut}
use Rattle.cap_account.proofs.Strides.{handing}
use Rattle.cap_account.proofs.Handing.{callee-is, caller-is, called}
use Rattle.cap_owners_spec.specs.Traced.{Traced, traced, past_width, untold, ◌>>=◌}
use Rattle.cap_owners_spec.specs.Track.{TrackedRegion, TrackedFrame, Track, account_of}
use Rattle.cap_owners_spec.specs.Steps.{Proved, Moved, Scene, Handed, hands_over, after_move, followed, follow}
use Rattle.cap_owners_laws.specs.Owned.{IsTold, GoesOver}
use Rattle.cap_owners_walks_laws.proofs.Parts.Telling.{told-on}
use Rattle.cap_owners_runs_laws.proofs.Tracks.Tied.{derivation, Tied, WaitsTied, AllWaitTied, EachTied, Kept}
use Rattle.cap_owners_runs_laws.proofs.Tracks.Steps.{TurnKept, GoesKept}
use Rattle.cap_owners_runs_laws.proofs.Tracks.Turns.{own}
use Rattle.cap_owners_runs_laws.proofs.Tracks.Later.{below-tied, threads-tied}
use Rattle.cap_owners_runs_laws.proofs.Steps.Stepping.{same-stock}
use Rattle.cap_owners_runs_laws.proofs.Steps.Making.{MadeSo, made-goes}

-- ---- the step of the track

module _ (p : Checked) (trees : List (Option PlainTree)) (x : TurnKept p trees) (n : ℕ)
    (g : PlainFunction) (args : List ℤ) (destination : Option ℕ) (b : Block) where
  abbrev pub called_after : Configuration
  called_after = record {
    heap = x.turn.c.heap;
    threads = slice_set x.turn.c.threads x.turn.thread
        (new_frame n g args destination ∷ with_rest x.turn.frame b ∷ x.turn.below);
  }

  abbrev pub called_scene : Scene
  called_scene = record {
    frame = x.turn.frame;
    after = called_after;
    thread = x.turn.thread;
    top = x.top;
    below = x.below;
    regions = x.track.regions;
  }

  abbrev pub called_track : Handed → Track
  called_track z = after_move x.track x.turn.thread (record {
    frames = z.callee ∷ z.caller ∷ x.below;
    forked = None;
    regions = z.regions;
  })

  -- it goes on from what is handed over
  pub called-follows :
      follow (derivation p trees) x.track x.turn.thread Call x.turn.c called_after
      ≡ (hands_over (derivation p trees) called_scene Call
      (top_frame (slice_get called_after.threads x.turn.thread))
      >>= λ z. traced (called_track z))
  called-follows =
      (λ i. followed (derivation p trees) x.track x.turn.thread Call called_after
      (top_frame (x.turn.has_frames i)) (x.has_frames i))
      ∙ told-last (hands_over (derivation p trees) called_scene Call
      (top_frame (slice_get called_after.threads x.turn.thread)))
    where
      told-last :
          (o : Traced Handed) →
          ((o >>= λ z. traced (record {
            frames = z.callee ∷ z.caller ∷ x.below;
            forked = None;
            regions = z.regions;
          }))
          >>= λ (m : Moved). traced (after_move x.track x.turn.thread m))
          ≡ (o >>= λ z. traced (called_track z))
      told-last (traced z) = refl
      told-last past_width = refl
      told-last untold = refl

  -- where that is too wide, nothing follows
  pub called-wide :
      hands_over (derivation p trees) called_scene Call
      (top_frame (slice_get called_after.threads x.turn.thread))
      ≡ past_width →
      GoesKept p trees x (calls (spot_of x.turn) b n args destination (Some g))
  called-wide wide =
      let Q = λ (k : Track). GoesOver (derivation p trees) x.turn.thread Call x.turn.c called_after
      x.track k × Kept p trees called_after k in
      subst (IsTold Q)
      (sym (called-follows ∙ ap (λ o. o >>= λ z. traced (called_track z)) wide)) tt

-- ---- what it keeps

module _ (p : Checked) (trees : List (Option PlainTree)) (ls : Statements p)
    (stable : Stable p.program) (x : TurnKept p trees) (n : ℕ) (g : PlainFunction)
    (is_g : slice_get p.program.functions n ≡ Some g) (args : List ℤ)
    (arity : length args ≡ g.params) (destination : Option ℕ) (b : Block)
    (h : Hands p (part_stock x.top.held.part) (account_table (account_of x.track)) g args
    (λ kept U fixed.
    Waits p kept U x.top.held.fixed (with_rest x.turn.frame b) destination n args fixed))
    (made : List TrackedRegion)
    (so : MadeSo p trees h.over.U h.over.new x.track.regions made) (caller callee : TrackedFrame)
    (kept_is : part_stock caller.held.part ≡ h.kept)
    (fixed_is : caller.held.fixed ≡ x.top.held.fixed)
    (given_is : part_stock callee.held.part ≡ h.given) (names_are : callee.held.fixed ≡ h.fixed)
    (waits :
    WaitsTied p trees h.kept h.over.U x.top.held.fixed (with_rest x.turn.frame b)
    (record { destination = destination; function = n; arguments = args; fixed = h.fixed }) caller)
    (begun : Tied p trees h.given h.over.U h.fixed (new_frame n g args destination) callee) where
  abbrev d : Proved
  d = derivation p trees

  abbrev turn : Turn p
  turn = own p trees x

  abbrev y : Stride p (own p trees x)
  y = handing p (own p trees x) h.kept h.given h.over

  abbrev U : Table
  U = h.over.U

  abbrev K : Stock → Table → List NameValue → Type 0
  K kept U fixed =
      Waits p kept U x.top.held.fixed (with_rest x.turn.frame b) destination n args fixed

  abbrev pub fs : Thread
  fs = new_frame n g args destination ∷ with_rest x.turn.frame b ∷ x.turn.below

  abbrev ts : List TrackedFrame
  ts = callee ∷ caller ∷ x.below

  abbrev after : Configuration
  after = called_after p trees x n g args destination b

  abbrev moves : Scene
  moves = called_scene p trees x n g args destination b

  abbrev later : Track
  later = record {
    regions = x.track.regions ++ made;
    threads = slice_set x.track.threads x.turn.thread (callee ∷ caller ∷ x.below) ++ [];
  }

  held-are :
      {q : Stock} (part : Part) (fixed : List NameValue) (t : TrackedFrame) →
      part_stock part ≡ q → part_stock t.held.part ≡ q → t.held.fixed ≡ fixed →
      record { part = part; fixed = fixed } ≡ t.held
  held-are part fixed t e k f i = record {
    part = same-stock part t.held.part (e ∙ sym k) i;
    fixed = sym f i;
  }

  threads-same :
      slice_set (account_of x.track).threads x.turn.thread
      (record { part = cut p stable turn y h.given; fixed = h.fixed }
      ∷ record { part = cut p stable turn y h.kept; fixed = x.top.held.fixed }
      ∷ map (λ t. t.held) x.below)
      ≡ map (map (λ f. f.held))
      (slice_set x.track.threads x.turn.thread (callee ∷ caller ∷ x.below) ++ [])
  threads-same =
      let first = held-are (cut p stable turn y h.given) h.fixed callee
      (callee-is p ls stable turn n g is_g args arity K h) given_is names_are in
      let second = held-are (cut p stable turn y h.kept) x.top.held.fixed caller
      (caller-is p ls stable turn n g is_g args arity K h) kept_is fixed_is in
      (λ i. slice_set (account_of x.track).threads x.turn.thread
      (first i ∷ second i ∷ map (λ t. t.held) x.below))
      ∙ sym (map-set (map (λ (t : TrackedFrame). t.held)) x.track.threads x.turn.thread ts)
      ∙ ap (map (map (λ (t : TrackedFrame). t.held)))
      (sym (join-nil (slice_set x.track.threads x.turn.thread ts)))

  tied-callee :
      Tied p trees (part_stock callee.held.part) h.over.U callee.held.fixed
      (new_frame n g args destination) callee
  tied-callee =
      subst (λ q. Tied p trees q U callee.held.fixed (new_frame n g args destination) callee)
      (sym given_is)
      (subst (λ zs. Tied p trees h.given U zs (new_frame n g args destination) callee)
      (sym names_are) begun)

  tied-caller :
      WaitsTied p trees (part_stock caller.held.part) h.over.U caller.held.fixed
      (with_rest x.turn.frame b) (callee_of (new_frame n g args destination) callee.held) caller
  tied-caller =
      subst (λ q. WaitsTied p trees q U caller.held.fixed (with_rest x.turn.frame b)
      (callee_of (new_frame n g args destination) callee.held) caller) (sym kept_is)
      (subst (λ zs. WaitsTied p trees h.kept U zs (with_rest x.turn.frame b)
      (callee_of (new_frame n g args destination) callee.held) caller) (sym fixed_is)
      (subst (λ zs. WaitsTied p trees h.kept U x.top.held.fixed (with_rest x.turn.frame b)
      (record { destination = destination; function = n; arguments = args; fixed = zs }) caller)
      (sym names_are) waits))

  tied-below :
      AllWaitTied p trees h.over.U (callee_of (with_rest x.turn.frame b) caller.held) x.turn.below
      x.below
  tied-below =
      subst (λ zs. AllWaitTied p trees U (record {
        destination = x.turn.frame.destination;
        function = x.turn.frame.function;
        arguments = x.turn.frame.arguments;
        fixed = zs;
      })
      x.turn.below x.below) (sym fixed_is) (below-tied p trees stable x y)

  -- the track hands it over so
  pub called-kept :
      IsTold (λ z. z ≡ record {
        caller = caller;
        callee = callee;
        regions = x.track.regions ++ made;
      })
      (hands_over (derivation p trees) (called_scene p trees x n g args destination b) Call
      (top_frame
      (slice_get (called_after p trees x n g args destination b).threads x.turn.thread))) →
      GoesKept p trees x (calls (spot_of x.turn) b n args destination (Some g))
  called-kept told =
      let Q = λ (k : Track).
      GoesOver d x.turn.thread Call x.turn.c after x.track k × Kept p trees after k in
      let track_of = called_track p trees x n g args destination b in
      let goes = called p ls stable turn n g is_g args arity K h destination b h.goes_on in
      let o = hands_over d moves Call (top_frame (slice_get after.threads x.turn.thread)) in
      subst (IsTold Q) (sym (called-follows p trees x n g args destination b))
      (told-on (λ z. z ≡ record {
        caller = caller;
        callee = callee;
        regions = x.track.regions ++ made;
      })
      Q o (λ z. traced (track_of z)) told
      (λ z e. subst (λ z. Q (track_of z)) (sym e)
      (made-goes p trees stable x y refl made so after Call
      (slice_set (account_of x.track).threads x.turn.thread
      (record { part = cut p stable turn y h.given; fixed = h.fixed }
      ∷ record { part = cut p stable turn y h.kept; fixed = x.top.held.fixed }
      ∷ map (λ t. t.held) x.below))
      (slice_set x.track.threads x.turn.thread ts ++ []) threads-same
      (goes.1, goes.2, goes.3, goes.4)
      (subst (EachTied p trees U after.threads)
      (sym (join-nil (slice_set x.track.threads x.turn.thread ts)))
      (threads-tied p trees stable x y fs ts (tied-callee, (tied-caller, tied-below)))))))
