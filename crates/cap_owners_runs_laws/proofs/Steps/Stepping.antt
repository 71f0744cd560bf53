-- A step by which no region changes, and only the stepping frame's cells may: the track goes over,
-- and is kept.
use Rattle.std.proofs.Common.{◌≡◌, ◌≢◌, ℕ, false, List, [], ◌∷◌, ◌++◌, map, Option, Some, None, refl, sym, ap, ◌∙◌, subst}
use Rattle.std.specs.Prelude.{slice_get, slice_set}
use Rattle.cap_goal_spec.specs.Choices.{PlainTree}
use Rattle.cap_machine.specs.Machine.{Heap, Frame, Thread, Configuration, top_frame}
use Rattle.cap_machine.specs.declared.event.Event.{Event}
use Rattle.cap_machine_accounts.specs.Parts.{Part, no_part, guard_at}
use Rattle.cap_machine_accounts.specs.Accounts.{Held, OwnedRegion, Account}
use Rattle.cap_machine_accounts.specs.Following.{StaysOn, FramesFollow, accesses, SomeHasCell, Follows}
use Rattle.cap_machine_accounts.specs.Safety.{KeepsContracts}
use Rattle.cap_account_resources.specs.Parts.{Table}
use Rattle.cap_account_resources.proofs.Lists.{some-same, map-set, join-nil}
use Rattle.cap_account_resources.proofs.Stocks.{Stock}
use Rattle.cap_account_states.proofs.Checked.{Checked}
use Rattle.cap_account_steps.proofs.Regained.{Stable}
use Rattle.cap_account.proofs.Stocked.{part_stock, account_table, callee_of, AllWait, Sound, Turn}
use Rattle.cap_account.proofs.Changes.{Recells}
use Rattle.cap_account.proofs.Successors.{Stride, cut, cut-is, kept_of, account}
use Rattle.cap_account.proofs.Following.{stepping, before}
use Rattle.cap_account.proofs.Strides.{recelling, no-access, later_threads, left-all, goes-on}
use Rattle.cap_owners_spec.specs.Traced.{Traced, traced, past_width, untold, ◌>>=◌}
use Rattle.cap_owners_spec.specs.Track.{TrackedFrame, Track, account_of}
use Rattle.cap_owners_spec.specs.Walks.{Halt}
use Rattle.cap_owners_spec.specs.Steps.{Proved, Moved, Scene, walk_of, keeping, stays_seated, moved, after_move, followed, follow}
use Rattle.cap_owners_laws.specs.Owned.{IsTold, GoesOver}
use Rattle.cap_owners_walks_laws.proofs.Values.Parts.{same-part}
use Rattle.cap_owners_runs_laws.proofs.Tracks.Tied.{derivation, Tied, AllWaitTied, StackTied, EachTied, Kept}
use Rattle.cap_owners_runs_laws.proofs.Tracks.Steps.{TurnKept}
use Rattle.cap_owners_runs_laws.proofs.Tracks.Turns.{each-set, own, stack-tied}
use Rattle.cap_owners_walks_laws.proofs.Parts.Telling.{told-on}
use Rattle.cap_owners_runs_laws.proofs.Steps.Staying.{holding}

-- ---- lists

pub map-still :
    {A : Type 0} (f : A → A) → ((x : A) → f x ≡ x) → (xs : List A) → map f xs ≡ xs
map-still f h [] = refl
map-still f h (x ∷ xs) = ap (λ y. y ∷ map f xs) (h x) ∙ ap (λ ys. x ∷ ys) (map-still f h xs)

-- a part is what its stock says
pub same-stock : (q r : Part) → part_stock q ≡ part_stock r → q ≡ r
same-stock q r e =
    same-part q r (λ a z. ap (λ (s : Stock). s.cells a z) e)
    (λ n. some-same (guard_at q n) (guard_at r n) (ap (λ (s : Stock). s.guards n) e))

-- ---- the step

module _ (p : Checked) (trees : List (Option PlainTree)) (stable : Stable p.program)
    (x : TurnKept p trees) where
  abbrev d : Proved
  d = derivation p trees

  abbrev k : Track
  k = x.track

  abbrev V : Table
  V = account_table (account_of x.track)

  abbrev turn : Turn p
  turn = own p trees x

  module _ (heap : Heap) (cells : Heap) (g : Frame) (event : Event) where
    -- the top frame with the step, and with the cells that it has then
    abbrev pub stepped : TrackedFrame
    stepped = record x.top { since = x.top.since ++ event ∷ [] }

    abbrev pub after : Configuration
    after = record {
      heap = heap;
      threads = slice_set x.turn.c.threads x.turn.thread (g ∷ x.turn.below);
    }

    abbrev scene : Scene
    scene = record {
      frame = x.turn.frame;
      after = after;
      thread = x.turn.thread;
      top = x.top;
      below = x.below;
      regions = x.track.regions;
    }

    abbrev part : Part
    part = (holding stepped cells).held.part

    abbrev moves_so : Moved
    moves_so = record {
      frames = holding stepped cells ∷ x.below;
      forked = None;
      regions = x.track.regions;
    }

    abbrev later : Track
    later = after_move x.track x.turn.thread moves_so

    module _
        (tied : Tied p trees (part_stock part) (account_table (account_of x.track))
        x.top.held.fixed g stepped)
        (recells : Recells (part_stock x.top.held.part) (part_stock part) x.turn.c.heap heap)
        (callee : callee_of x.turn.frame x.top.held ≡ callee_of g x.top.held)
        (frames : (hss : List (List Held)) (lefts : List Part) → StaysOn (stepping turn) hss lefts →
        FramesFollow event (stepping turn) hss no_part lefts)
        (keeps : (b : Account) → KeepsContracts p.program x.turn.thread event x.turn.c after
        (account_of x.track) b no_part) (shut : accesses event ≡ None) where
      abbrev y : Stride p turn
      y = recelling p turn heap (part_stock part) recells

      -- ---- the account

      part-cut : cut p stable turn y (part_stock part) ≡ part
      part-cut =
          same-stock (cut p stable turn y (part_stock part)) part
          (cut-is p stable turn y (part_stock part) (left-all p stable turn y))

      abbrev regions_were : List OwnedRegion
      regions_were = (account_of x.track).regions

      regions-same :
          (account p stable turn y (later_threads p stable turn y)).regions ≡ regions_were
      regions-same =
          join-nil (map (kept_of (cut p stable turn y) []) regions_were)
          ∙ map-still (kept_of (cut p stable turn y) []) (λ r. refl) regions_were

      threads-same : later_threads p stable turn y ≡ (account_of later).threads
      threads-same =
          ap (λ (q : Part). slice_set (account_of k).threads x.turn.thread
          (record { part = q; fixed = x.top.held.fixed } ∷ map (λ t. t.held) x.below)) part-cut
          ∙ sym (map-set (map (λ (t : TrackedFrame). t.held)) k.threads x.turn.thread
          moves_so.frames)
          ∙ ap (map (map (λ (t : TrackedFrame). t.held)))
          (sym (join-nil (slice_set k.threads x.turn.thread moves_so.frames)))

      account-same :
          account p stable turn y (later_threads p stable turn y) ≡ account_of later
      account-same i = record { regions = regions-same i; threads = threads-same i }

      below-waits :
          AllWait p (account_table (account_of x.track)) (callee_of g x.top.held) x.turn.below
          (map (λ t. t.held) x.below)
      below-waits =
          subst (λ o. AllWait p V o x.turn.below (map (λ (t : TrackedFrame). t.held) x.below))
          callee
          (x.kept.sound.stacks x.turn.thread (x.turn.frame ∷ x.turn.below)
          (x.top.held ∷ map (λ t. t.held) x.below) x.turn.has_frames turn.has_parts).1

      abbrev Goes_to : Account → Type 0
      Goes_to b =
          (handed : Part)
          × Follows p.program x.turn.c.heap x.turn.thread event (account_of x.track) b handed
          × KeepsContracts p.program x.turn.thread event x.turn.c after (account_of x.track) b
          handed
          × Sound p after b

      goes : Goes_to (account_of later)
      goes =
          let g1 = goes-on p stable turn y g event tied.stood below-waits
          (frames (later_threads p stable turn y) ((cut p stable turn y (part_stock part)) ∷ []))
          (keeps (account p stable turn y (later_threads p stable turn y))) (λ e. refl)
          (no-access (SomeHasCell (before p stable turn y)) (accesses event) shut) in
          subst Goes_to account-same (g1.1, g1.2, g1.3, g1.4)

      -- ---- the track

      -- what the others have is as it was
      others-tied :
          (j : ℕ) (t : Thread) (qs : List TrackedFrame) → j ≢ x.turn.thread →
          slice_get x.turn.c.threads j ≡ Some t → slice_get k.threads j ≡ Some qs →
          StackTied p trees V t qs
      others-tied j t qs ne e q = x.kept.stacks j t qs e q

      mine-tied : StackTied p trees V (g ∷ x.turn.below) moves_so.frames
      mine-tied = (
        record { stood = tied.stood; fits = tied.fits; walks = tied.walks },
        subst (λ o. AllWaitTied p trees V o x.turn.below x.below) callee (stack-tied p trees x).1,
      )

      all-tied : EachTied p trees V after.threads later.threads
      all-tied =
          subst (EachTied p trees V after.threads)
          (sym (join-nil (slice_set k.threads x.turn.thread moves_so.frames)))
          (each-set (StackTied p trees V) x.turn.c.threads k.threads x.turn.thread
          (g ∷ x.turn.below) moves_so.frames mine-tied others-tied)

      later-kept :
          GoesOver d x.turn.thread event x.turn.c after k later × Kept p trees after later
      later-kept = (
        (goes.0, goes.1, goes.2),
        record {
          sound = goes.3;
          stacks = all-tied;
          regions = x.kept.regions;
          numbered = x.kept.numbered;
        },
      )

      follows-so :
          moved d scene event ≡ stays_seated d scene event →
          follow d k x.turn.thread event x.turn.c after
          ≡ (stays_seated d scene event >>= λ m. traced (after_move k x.turn.thread m))
      follows-so e =
          (λ i. followed d k x.turn.thread event after (top_frame (x.turn.has_frames i))
          (x.has_frames i))
          ∙ ap (λ o. o >>= λ m. traced (after_move k x.turn.thread m)) e

      seated-so :
          (o : Traced Halt) →
          IsTold (λ f. f ≡ holding stepped cells) (o >>= keeping d stepped) →
          IsTold (λ m. m ≡ moves_so)
          (o >>= λ h. keeping d stepped h >>= λ f.
          traced (record { frames = f ∷ x.below; forked = None; regions = x.track.regions }))
      seated-so (traced h) told =
          told-on (λ f. f ≡ holding stepped cells) (λ m. m ≡ moves_so)
          (keeping d stepped h) (λ f. traced (record {
            frames = f ∷ x.below;
            forked = None;
            regions = x.track.regions;
          }))
          told (λ f e. ap (λ (f : TrackedFrame). record {
            frames = f ∷ x.below;
            forked = None;
            regions = x.track.regions;
          }) e)
      seated-so past_width told = tt
      seated-so untold told = absurd told

      -- where the frame stays seated and keeps its part, with these cells
      pub local-kept :
          moved d scene event ≡ stays_seated d scene event →
          IsTold (λ f. f ≡ holding stepped cells)
          (walk_of d false scene event >>= keeping d stepped) →
          IsTold (λ later.
          GoesOver d x.turn.thread event x.turn.c after k later × Kept p trees after later)
          (follow d k x.turn.thread event x.turn.c after)
      local-kept e told =
          subst (IsTold (λ later.
          GoesOver d x.turn.thread event x.turn.c after k later × Kept p trees after later))
          (sym (follows-so e))
          (told-on (λ m. m ≡ moves_so) (λ later.
          GoesOver d x.turn.thread event x.turn.c after k later × Kept p trees after later)
          (stays_seated d scene event) (λ m. traced (after_move k x.turn.thread m))
          (seated-so (walk_of d false scene event) told)
          (λ m q. subst (λ m. GoesOver d x.turn.thread event x.turn.c after k
          (after_move k x.turn.thread m) × Kept p trees after (after_move k x.turn.thread m))
          (sym q) later-kept))
