-- What others have goes on to a table to which a step of one thread leads: frames stay tied to
-- their walks, and regions have their cases.
use Rattle.std.proofs.Common.{◌≡◌, ◌≢◌, inl, inr, ℕ, List, [], ◌∷◌, map, Option, Some, None, ap}
use Rattle.std.specs.Prelude.{slice_get, slice_set, remove}
use Rattle.cap_prog.specs.Program.{PlainProgram}
use Rattle.cap_goal_spec.specs.Choices.{PlainTree}
use Rattle.cap_machine.specs.Machine.{Frame, Thread}
use Rattle.cap_machine_accounts.specs.Assertions.{NameValue}
use Rattle.cap_machine_accounts.specs.Accounts.{Held}
use Rattle.cap_account_resources.specs.Parts.{Table}
use Rattle.cap_account_resources.proofs.Lists.{Among, map-at}
use Rattle.cap_account_resources.proofs.Interference.{Relies, relies-trans}
use Rattle.cap_account_resources.proofs.Stocks.{Stock, both, Inside, inside-trans, inside-first, inside-second}
use Rattle.cap_account_states.proofs.Checked.{Checked}
use Rattle.cap_account_steps.proofs.Regained.{Stable}
use Rattle.cap_account.proofs.Stocked.{part_stock, sum_by, frames_stock, owner_of, owner_at, account_table, Callee, callee_of, Turn}
use Rattle.cap_account.proofs.Renewed.{free-each}
use Rattle.cap_account.proofs.Changes.{Scene, Change, shift, free_regions, rest_stock, relies-for}
use Rattle.cap_account.proofs.Successors.{others, scene, region-among, Stride}
use Rattle.cap_account.proofs.Succeeding.{other-inside, rest-has}
use Rattle.cap_owners_spec.specs.Track.{TrackedRegion, TrackedFrame, account_of}
use Rattle.cap_owners_runs_laws.proofs.Tracks.Tied.{Tied, WaitsTied, AllWaitTied, StackTied, EachTied, RegionTied}
use Rattle.cap_owners_runs_laws.proofs.Tracks.Steps.{TurnKept}
use Rattle.cap_owners_runs_laws.proofs.Tracks.Turns.{each-set, own, stack-tied}

-- ---- lists

among-mapped :
    {A B : Type 0} (f : A → B) (xs : List A) (x : A) → Among x xs → Among (f x) (map f xs)
among-mapped f [] x m = m
among-mapped f (y ∷ xs) x (inl e) = inl (ap f e)
among-mapped f (y ∷ xs) x (inr m) = inr (among-mapped f xs x m)

-- ---- one frame, and one region

module _ (p : Checked) (trees : List (Option PlainTree)) (V U : Table) where
  pub tied-later :
      (part : Stock) (fixed : List NameValue) (f : Frame) (t : TrackedFrame) →
      Relies p.program part.guards V U → Tied p trees part V fixed f t →
      Tied p trees part U fixed f t
  tied-later part fixed f t r h = record {
    stood = record {
      fn = h.stood.fn;
      ok = h.stood.ok;
      all = λ W q. h.stood.all W (relies-trans p.program part.guards V U W r q);
    };
    fits = h.fits;
    walks = λ W q. h.walks W (relies-trans p.program part.guards V U W r q);
  }

  pub waits-later :
      (part : Stock) (fixed : List NameValue) (f : Frame) (y : Callee) (t : TrackedFrame) →
      Relies p.program part.guards V U → WaitsTied p trees part V fixed f y t →
      WaitsTied p trees part U fixed f y t
  waits-later part fixed f y t r h = record {
    waited = record {
      fn = h.waited.fn;
      ok = h.waited.ok;
      all = λ W q. h.waited.all W (relies-trans p.program part.guards V U W r q);
    };
    seated = λ W q. h.seated W (relies-trans p.program part.guards V U W r q);
    back = λ W q. h.back W (relies-trans p.program part.guards V U W r q);
    regains = λ W q. h.regains W (relies-trans p.program part.guards V U W r q);
  }

  pub region-later :
      (r : TrackedRegion) → Relies p.program (part_stock r.owned.part).guards V U →
      RegionTied p trees V r → RegionTied p trees U r
  region-later r q h = record {
    T = h.T;
    reached = record {
      fits = h.reached.fits;
      full = h.reached.full;
      room = h.reached.room;
      relies =
          relies-trans p.program (part_stock r.owned.part).guards h.T V U h.reached.relies q;
    };
    known = h.known;
    own = h.own;
    number = h.number;
    met = h.met;
    fits = h.fits;
    sorted = h.sorted;
  }

  -- ---- stacks, whose parts are within what relies on it

  module _ (most : Stock)
      (led : (q : Stock) → Inside p.program q most → Relies p.program q.guards V U) where
    abbrev parts : List TrackedFrame → Stock
    parts ts = frames_stock p.program (map (λ (t : TrackedFrame). t.held) ts)

    first-within :
        (t : TrackedFrame) (ts : List TrackedFrame) → Inside p.program (parts (t ∷ ts)) most →
        Relies p.program (part_stock t.held.part).guards V U
    first-within t ts le =
        let q = part_stock t.held.part in
        led q
        (inside-trans p.program q (both p.program q (parts ts)) most
        (inside-first p.program q (parts ts)) le)

    rest-within :
        (t : TrackedFrame) (ts : List TrackedFrame) → Inside p.program (parts (t ∷ ts)) most →
        Inside p.program (parts ts) most
    rest-within t ts le =
        let q = part_stock t.held.part in
        inside-trans p.program (parts ts) (both p.program q (parts ts)) most
        (inside-second p.program q (parts ts)) le

    pub all-wait-later :
        (y : Callee) (fs : List Frame) (ts : List TrackedFrame) →
        Inside p.program (frames_stock p.program (map (λ (t : TrackedFrame). t.held) ts)) most →
        AllWaitTied p trees V y fs ts → AllWaitTied p trees U y fs ts
    all-wait-later y [] [] le h = h
    all-wait-later y [] (t ∷ ts) le h = h
    all-wait-later y (f ∷ fs) [] le h = h
    all-wait-later y (f ∷ fs) (t ∷ ts) le h = (
      waits-later (part_stock t.held.part) t.held.fixed f y t (first-within t ts le) h.0,
      all-wait-later (callee_of f t.held) fs ts (rest-within t ts le) h.1,
    )

    pub stack-later :
        (fs : Thread) (ts : List TrackedFrame) →
        Inside p.program (frames_stock p.program (map (λ (t : TrackedFrame). t.held) ts)) most →
        StackTied p trees V fs ts → StackTied p trees U fs ts
    stack-later [] [] le h = h
    stack-later [] (t ∷ ts) le h = h
    stack-later (f ∷ fs) [] le h = h
    stack-later (f ∷ fs) (t ∷ ts) le h = (
      tied-later (part_stock t.held.part) t.held.fixed f t (first-within t ts le) h.0,
      all-wait-later (callee_of f t.held) fs ts (rest-within t ts le) h.1,
    )

-- ---- a step

module _ (p : Checked) (trees : List (Option PlainTree)) (stable : Stable p.program)
    (x : TurnKept p trees) (y : Stride p (own p trees x)) where
  abbrev P : PlainProgram
  P = p.program

  abbrev turn : Turn p
  turn = own p trees x

  abbrev s : Scene p.program
  s = scene p (own p trees x)

  abbrev ch : Change p.program (scene p (own p trees x)) y.heap y.left
  ch = y.change

  abbrev V : Table
  V = account_table (account_of x.track)

  abbrev U : Table
  U = y.change.by.U

  abbrev rest : Stock
  rest = rest_stock p.program (scene p (own p trees x)) y.heap y.left y.change

  abbrev held : List TrackedFrame → List Held
  held ts = map (λ t. t.held) ts

  abbrev elsewhere : Stock
  elsewhere =
      sum_by p.program (frames_stock p.program)
      (remove (account_of x.track).threads x.turn.thread)

  relying : (q : Stock) → Inside p.program q rest → Relies p.program q.guards V U
  relying q le = relies-for P s y.heap y.left ch q le

  -- the frames below wait on
  pub below-tied :
      AllWaitTied p trees y.change.by.U (callee_of x.turn.frame x.top.held) x.turn.below x.below
  below-tied =
      all-wait-later p trees V U rest relying (callee_of x.turn.frame x.top.held) x.turn.below
      x.below
      (rest-has p stable turn y (frames_stock P (held x.below))
      (inside-first P (frames_stock P (held x.below)) elsewhere)) (stack-tied p trees x).1

  -- and so do all other threads
  pub others-tied :
      (j : ℕ) (t : Thread) (ts : List TrackedFrame) → j ≢ x.turn.thread →
      slice_get x.turn.c.threads j ≡ Some t → slice_get x.track.threads j ≡ Some ts →
      StackTied p trees y.change.by.U t ts
  others-tied j t ts ne e k =
      stack-later p trees V U rest relying t ts
      (rest-has p stable turn y (frames_stock P (held ts))
      (inside-trans P (frames_stock P (held ts)) elsewhere (others p turn)
      (other-inside P (frames_stock P) turn.a.threads x.turn.thread j (held ts) ne
      (map-at held x.track.threads j ts k))
      (inside-second P (frames_stock P (held x.below)) elsewhere)))
      (x.kept.stacks j t ts e k)

  -- where the thread has these frames then
  pub threads-tied :
      (fs : Thread) (ts : List TrackedFrame) → StackTied p trees y.change.by.U fs ts →
      EachTied p trees y.change.by.U (slice_set x.turn.c.threads x.turn.thread fs)
      (slice_set x.track.threads x.turn.thread ts)
  threads-tied fs ts h =
      each-set (StackTied p trees U) x.turn.c.threads x.track.threads x.turn.thread fs ts h
      others-tied

  -- a region that isn't closed has what it had
  pub free-tied :
      (r : TrackedRegion) → Among r x.track.regions →
      owner_at y.change.by.closed r.owned.region.number ≡ None →
      RegionTied p trees (account_table (account_of x.track)) r → RegionTied p trees y.change.by.U r
  free-tied r m still h =
      let q = part_stock r.owned.part in
      region-later p trees V U r
      (relying q
      (inside-trans P q (free_regions P s y.heap y.left ch) rest
      (free-each P s.rs (shift P s y.heap y.left ch) (owner_of r.owned)
      (region-among turn.a.regions r.owned
      (among-mapped (λ (r : TrackedRegion). r.owned) x.track.regions r m)) still)
      (inside-second P (others p turn) (free_regions P s y.heap y.left ch)))) h
