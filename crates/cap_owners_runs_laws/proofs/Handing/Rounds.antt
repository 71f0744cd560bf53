-- A frame that comes to a loop goes into a turn of it, or behind it: with what it gave up for the
-- invariant, and with the regions that were made, the track goes over and is kept.
use Rattle.std.proofs.Common.{◌≡◌, Bool, false, List, [], ◌∷◌, ◌++◌, map, Option, None, refl, sym, ap, ◌∙◌, subst, Some}
use Rattle.std.specs.Prelude.{slice_get, slice_set}
use Rattle.cap_prog.specs.Program.{Block}
use Rattle.cap_goal_spec.specs.Choices.{PlainTree}
use Rattle.cap_machine.specs.Machine.{Frame, Configuration, top_frame, with_rest}
use Rattle.cap_machine.specs.declared.event.Event.TheVariants.{Branch}
use Rattle.cap_machine_accounts.specs.Following.{SomeHasCell}
use Rattle.cap_machine_accounts.specs.Parts.{Part}
use Rattle.cap_account_resources.specs.Parts.{Table}
use Rattle.cap_account_resources.proofs.Lists.{join-nil, map-set}
use Rattle.cap_account_resources.proofs.Stocks.{Stock, no_stock}
use Rattle.cap_account_states.proofs.Checked.{Checked}
use Rattle.cap_account_steps.proofs.Frames.{HandsOver}
use Rattle.cap_account_steps.proofs.Regained.{Stable}
use Rattle.cap_account.proofs.Stocked.{part_stock, account_table, Turn}
use Rattle.cap_account.proofs.Successors.{Stride, cut, cut-is}
use Rattle.cap_account.proofs.Following.{before}
use Rattle.cap_account.proofs.Succeeding.{below-wait}
use Rattle.cap_account.proofs.Strides.{left-all, goes-on, no-access}
use Rattle.cap_account.proofs.Returning.{giving}
use Rattle.cap_owners_spec.specs.Traced.{Traced, traced, past_width, untold, ◌>>=◌, found}
use Rattle.cap_owners_spec.specs.Track.{Fill, TrackedRegion, TrackedFrame, Track, account_of}
use Rattle.cap_owners_spec.specs.Walks.{Taking, Walk, Halt, leaves}
use Rattle.cap_owners_spec.specs.Steps.{Proved, Moved, Scene, walk_of, standing, looping, tracks_branch, after_move, followed, follow}
use Rattle.cap_owners_laws.specs.Owned.{IsTold, GoesOver}
use Rattle.cap_owners_walks_laws.proofs.Parts.Telling.{told-on}
use Rattle.cap_owners_runs_laws.proofs.Tracks.Again.{tied-held}
use Rattle.cap_owners_runs_laws.proofs.Tracks.Tied.{derivation, Tied, AllWaitTied, StackTied, EachTied, Kept}
use Rattle.cap_owners_runs_laws.proofs.Tracks.Steps.{TurnKept}
use Rattle.cap_owners_runs_laws.proofs.Tracks.Turns.{own}
use Rattle.cap_owners_runs_laws.proofs.Tracks.Later.{below-tied, threads-tied}
use Rattle.cap_owners_runs_laws.proofs.Steps.Stepping.{same-stock}
use Rattle.cap_owners_runs_laws.proofs.Steps.Standing.{with_part, StandsWith}
use Rattle.cap_owners_runs_laws.proofs.Steps.Making.{MadeSo, made-goes}

-- ---- what the track does

module _ (p : Checked) (trees : List (Option PlainTree)) (x : TurnKept p trees) (b : Block)
    (taken : Bool) where
  abbrev pub round_after : Configuration
  round_after = record {
    heap = x.turn.c.heap;
    threads = slice_set x.turn.c.threads x.turn.thread (with_rest x.turn.frame b ∷ x.turn.below);
  }

  abbrev pub round_scene : Scene
  round_scene = record {
    frame = x.turn.frame;
    after = round_after;
    thread = x.turn.thread;
    top = x.top;
    below = x.below;
    regions = x.track.regions;
  }

  -- from where the walk stops
  abbrev pub round_on : Halt → Traced Track
  round_on h =
      tracks_branch (derivation p trees) round_scene (Branch taken) h >>= λ m.
      traced (after_move x.track x.turn.thread m)

  pub round-follows :
      follow (derivation p trees) x.track x.turn.thread (Branch taken) x.turn.c round_after
      ≡ (walk_of (derivation p trees) false round_scene (Branch taken) >>= round_on)
  round-follows =
      (λ i. followed (derivation p trees) x.track x.turn.thread (Branch taken) round_after
      (top_frame (x.turn.has_frames i)) (x.has_frames i))
      ∙ apart (walk_of (derivation p trees) false round_scene (Branch taken))
    where
      apart :
          (o : Traced Halt) →
          ((o >>= tracks_branch (derivation p trees) round_scene (Branch taken))
          >>= λ (m : Moved). traced (after_move x.track x.turn.thread m))
          ≡ (o >>= round_on)
      apart (traced h) = refl
      apart past_width = refl
      apart untold = refl

  -- where it is too wide, nothing follows
  pub round-wide :
      (Q : Track → Type 0) →
      walk_of (derivation p trees) false round_scene (Branch taken) ≡ past_width →
      IsTold Q
      (follow (derivation p trees) x.track x.turn.thread (Branch taken) x.turn.c round_after)
  round-wide Q wide =
      subst (IsTold Q) (sym (round-follows ∙ ap (λ o. o >>= round_on) wide)) tt

-- ---- what it keeps

module _ (p : Checked) (trees : List (Option PlainTree)) (stable : Stable p.program)
    (x : TurnKept p trees) (given : Stock)
    (over :
    HandsOver p.program (account_table (account_of x.track)) (part_stock x.top.held.part) no_stock
    given)
    (made : List TrackedRegion) (so : MadeSo p trees over.U over.new x.track.regions made)
    (b : Block) (taken : Bool)
    (begun : TrackedFrame) (fixed_is : begun.held.fixed ≡ x.top.held.fixed)
    (tied : Tied p trees given over.U x.top.held.fixed (with_rest x.turn.frame b) begun) where
  abbrev g : Frame
  g = with_rest x.turn.frame b

  abbrev d : Proved
  d = derivation p trees

  abbrev turn : Turn p
  turn = own p trees x

  abbrev y : Stride p (own p trees x)
  y = giving p (own p trees x) given over

  abbrev U : Table
  U = over.U

  abbrev after : Configuration
  after = round_after p trees x b taken

  abbrev scene : Scene
  scene = round_scene p trees x b taken

  abbrev pub round_later : Part → Track
  round_later q = record {
    regions = x.track.regions ++ made;
    threads = slice_set x.track.threads x.turn.thread (with_part begun q ∷ x.below) ++ [];
  }

  -- it goes over to this track, which is kept
  abbrev pub RoundKept : Track → Type 0
  RoundKept k =
      GoesOver (derivation p trees) x.turn.thread (Branch taken) x.turn.c
      (round_after p trees x b taken) x.track k
      × Kept p trees (round_after p trees x b taken) k

  threads-same :
      (q : Part) → part_stock q ≡ given →
      slice_set (account_of x.track).threads x.turn.thread
      (record { part = cut p stable turn y given; fixed = x.top.held.fixed }
      ∷ map (λ t. t.held) x.below)
      ≡ map (map (λ f. f.held))
      (slice_set x.track.threads x.turn.thread (with_part begun q ∷ x.below) ++ [])
  threads-same q e =
      let part = same-stock (cut p stable turn y given) q
      (cut-is p stable turn y given (left-all p stable turn y) ∙ sym e) in
      (λ i. slice_set (account_of x.track).threads x.turn.thread
      (record { part = part i; fixed = sym fixed_is i } ∷ map (λ t. t.held) x.below))
      ∙ sym (map-set (map (λ (t : TrackedFrame). t.held)) x.track.threads x.turn.thread
      (with_part begun q ∷ x.below))
      ∙ ap (map (map (λ (t : TrackedFrame). t.held)))
      (sym (join-nil (slice_set x.track.threads x.turn.thread (with_part begun q ∷ x.below))))

  stack :
      (q : Part) → part_stock q ≡ given →
      StackTied p trees over.U (with_rest x.turn.frame b ∷ x.turn.below)
      (with_part begun q ∷ x.below)
  stack q e = (
    subst (λ s. Tied p trees s U begun.held.fixed g (with_part begun q)) (sym e)
        (subst (λ ns. Tied p trees given U ns g (with_part begun q)) (sym fixed_is)
        (tied-held p trees given U x.top.held.fixed g begun
        (record { part = q; fixed = begun.held.fixed }) tied)),
    subst (λ ns. AllWaitTied p trees U (record {
      destination = x.turn.frame.destination;
      function = x.turn.frame.function;
      arguments = x.turn.frame.arguments;
      fixed = ns;
    })
        x.turn.below x.below) (sym fixed_is) (below-tied p trees stable x y),
  )

  pub round-kept : (q : Part) → part_stock q ≡ given → RoundKept (round_later q)
  round-kept q e =
      let goes = goes-on p stable turn y g (Branch taken) tied.stood (below-wait p stable turn y)
      (λ h. h) tt (λ e. refl)
      (no-access (SomeHasCell (before p stable turn y)) None refl) in
      made-goes p trees stable x y refl made so after (Branch taken)
      (slice_set (account_of x.track).threads x.turn.thread
      (record { part = cut p stable turn y given; fixed = x.top.held.fixed }
      ∷ map (λ t. t.held) x.below))
      (slice_set x.track.threads x.turn.thread (with_part begun q ∷ x.below) ++ [])
      (threads-same q e) (goes.1, goes.2, goes.3, goes.4)
      (subst (EachTied p trees U after.threads)
      (sym (join-nil (slice_set x.track.threads x.turn.thread (with_part begun q ∷ x.below))))
      (threads-tied p trees stable x y (g ∷ x.turn.below) (with_part begun q ∷ x.below) (stack q e)))

  -- where its walk ends with what was taken, and the frame that begins stands with what was given up
  pub round-told :
      (w : Walk) (k : Taking) →
      walk_of (derivation p trees) false (round_scene p trees x b taken) (Branch taken)
      ≡ traced (leaves w) →
      slice_get w.taken 0 ≡ Some k → w.regions ≡ x.track.regions ++ made →
      looping (derivation p trees) x.turn.frame x.top (Branch taken) k.fill ≡ traced begun →
      IsTold (StandsWith begun given)
      (standing (derivation p trees) (x.track.regions ++ made) begun) →
      IsTold RoundKept
      (follow (derivation p trees) x.track x.turn.thread (Branch taken) x.turn.c
      (round_after p trees x b taken))
  round-told w k ends top regions begins stands =
      let on : Walk → Option Taking → Traced Track = λ (w : Walk) (o : Option Taking).
      ((found o >>= λ (t : Taking). traced (t.fill, w)) >>= λ (z : Fill × Walk).
      looping d x.turn.frame x.top (Branch taken) z.0 >>= λ (b : TrackedFrame).
      standing d w.regions b >>= λ (f : TrackedFrame). traced (record {
        frames = f ∷ x.below;
        forked = None;
        regions = w.regions;
      }))
      >>= λ (m : Moved). traced (after_move x.track x.turn.thread m) in
      let rest : List TrackedRegion → Traced TrackedFrame → Traced Track =
      λ (rs : List TrackedRegion) (o : Traced TrackedFrame).
      (o >>= λ (b : TrackedFrame). standing d rs b >>= λ (f : TrackedFrame). traced (record {
        frames = f ∷ x.below;
        forked = None;
        regions = rs;
      }))
      >>= λ (m : Moved). traced (after_move x.track x.turn.thread m) in
      let all : follow d x.track x.turn.thread (Branch taken) x.turn.c after
      ≡ rest (x.track.regions ++ made) (traced begun) =
      round-follows p trees x b taken
      ∙ ap (λ o. o >>= round_on p trees x b taken) ends
      ∙ ap (on w) top
      ∙ (λ i. rest (regions i) (begins i)) in
      subst (IsTold RoundKept) (sym (all ∙ apart (standing d (x.track.regions ++ made) begun)))
      (told-on (StandsWith begun given) RoundKept
      (standing d (x.track.regions ++ made) begun) ends_with stands
      (λ f h. subst (λ f. IsTold RoundKept (ends_with f)) (sym h.1) (round-kept h.0 h.2)))
    where
      ends_with : TrackedFrame → Traced Track
      ends_with f = traced (after_move x.track x.turn.thread (record {
        frames = f ∷ x.below;
        forked = None;
        regions = x.track.regions ++ made;
      }))

      apart :
          (o : Traced TrackedFrame) →
          ((o >>= λ (f : TrackedFrame). traced (record {
            frames = f ∷ x.below;
            forked = None;
            regions = x.track.regions ++ made;
          }))
          >>= λ (m : Moved). traced (after_move x.track x.turn.thread m))
          ≡ (o >>= ends_with)
      apart (traced f) = refl
      apart past_width = refl
      apart untold = refl
