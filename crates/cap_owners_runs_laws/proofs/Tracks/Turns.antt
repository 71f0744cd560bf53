-- A thread that is to make a step: its turn by the account of the track, and what is kept of its
-- frames.
use Rattle.std.proofs.Common.{◌≡◌, ◌≢◌, ℕ, zero, suc, List, [], ◌∷◌, map, Option, Some, subst, arith}
use Rattle.std.specs.Prelude.{slice_get, slice_set}
use Rattle.cap_goal_spec.specs.Choices.{PlainTree}
use Rattle.cap_account_resources.proofs.Lists.{some-same, none-some, map-at}
use Rattle.cap_account_states.proofs.Checked.{Checked}
use Rattle.cap_account.proofs.Stocked.{part_stock, account_table, callee_of, Turn}
use Rattle.cap_owners_spec.specs.Track.{TrackedFrame, account_of}
use Rattle.cap_owners_runs_laws.proofs.Tracks.Tied.{Tied, AllWaitTied}
use Rattle.cap_owners_runs_laws.proofs.Tracks.Steps.{TurnKept}

-- ---- lists

-- two lists of which one element each is changed
pub each-set :
    {A B : Type 0} (R : A → B → Type 0) (xs : List A) (ys : List B) (i : ℕ) (x : A) (y : B) →
    R x y →
    ((j : ℕ) (u : A) (v : B) → j ≢ i → slice_get xs j ≡ Some u → slice_get ys j ≡ Some v → R u v) →
    (j : ℕ) (u : A) (v : B) → slice_get (slice_set xs i x) j ≡ Some u →
    slice_get (slice_set ys i y) j ≡ Some v → R u v
each-set R [] ys i x y r f j u v e k = absurd (none-some e)
each-set R (a ∷ xs) [] i x y r f j u v e k = absurd (none-some k)
each-set R (a ∷ xs) (b ∷ ys) zero x y r f zero u v e k =
    subst (λ z. R z v) (some-same x u e) (subst (R x) (some-same y v k) r)
each-set R (a ∷ xs) (b ∷ ys) zero x y r f (suc j) u v e k =
    f (suc j) u v (λ q. omega (arith, q)) e k
each-set R (a ∷ xs) (b ∷ ys) (suc i) x y r f zero u v e k =
    f 0 u v (λ q. omega (arith, q)) e k
each-set R (a ∷ xs) (b ∷ ys) (suc i) x y r f (suc j) u v e k =
    each-set R xs ys i x y r (λ n w z ne. f (suc n) w z (λ q. ne (omega (arith, q)))) j u v e k

-- ---- turns

module _ (p : Checked) (trees : List (Option PlainTree)) (x : TurnKept p trees) where
  -- the turn, by the track's own account
  abbrev pub own : Turn p
  own = record {
    c = x.turn.c;
    a = account_of x.track;
    sound = x.kept.sound;
    thread = x.turn.thread;
    frame = x.turn.frame;
    below = x.turn.below;
    held = x.top.held;
    waiting = map (λ t. t.held) x.below;
    has_frames = x.turn.has_frames;
    has_parts =
        map-at (map (λ (t : TrackedFrame). t.held)) x.track.threads x.turn.thread
        (x.top ∷ x.below) x.has_frames;
  }

  pub stack-tied :
      Tied p trees (part_stock x.top.held.part) (account_table (account_of x.track))
      x.top.held.fixed x.turn.frame x.top
      × AllWaitTied p trees (account_table (account_of x.track))
      (callee_of x.turn.frame x.top.held) x.turn.below x.below
  stack-tied =
      x.kept.stacks x.turn.thread (x.turn.frame ∷ x.turn.below) (x.top ∷ x.below) x.turn.has_frames
      x.has_frames
