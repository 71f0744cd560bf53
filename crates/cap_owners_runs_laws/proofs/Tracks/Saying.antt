-- What a kept track says: its account is valid, and each frame is where its walk stops.
use Rattle.std.proofs.Common.{◌≡◌, inl, inr, ℕ, suc, ℤ, List, [], ◌∷◌, map, length, Bool, true, false, Option, Some, None, refl, sym, ap, ◌∙◌, subst, arith}
use Rattle.std.specs.Prelude.{slice_get, flat_map, option_map, if◌then◌else◌}
use Rattle.std.specs.List.{AllByRecursion, AllZip}
use Rattle.cap_lin.specs.Linear.{same_number}
use Rattle.cap_lin.specs.Values.{Valuation}
use Rattle.cap_prog.specs.Program.{PlainFunction, PlainProgram}
use Rattle.cap_goal_spec.specs.States.{PlainState, Home, PlainTask, goal}
use Rattle.cap_goal_spec.specs.Choices.{PlainTree, node}
use Rattle.cap_rules_nodes.specs.Nodes.{program_nodes}
use Rattle.cap_machine.specs.Machine.{Frame, Thread}
use Rattle.cap_machine_accounts.specs.Parts.{Guard, IsGuard, Part, guard_at, Region}
use Rattle.cap_machine_accounts.specs.Assertions.{NameValue}
use Rattle.cap_machine_accounts.specs.Accounts.{Held, table, GuardsFit}
use Rattle.cap_account_resources.specs.Parts.{known_as, Table}
use Rattle.cap_account_resources.proofs.Lists.{Among, all-first, all-second, map-length}
use Rattle.cap_account_resources.proofs.Interference.{relies-same}
use Rattle.cap_account_resources.proofs.Stocks.{Stock}
use Rattle.cap_account_states.proofs.Alike.{Alike, meets-alike}
use Rattle.cap_account_states.proofs.Checked.{Checked}
use Rattle.cap_account_states.proofs.Meets.{Old, usable-old, same-state}
use Rattle.cap_account_states.proofs.Facts.{facts-on}
use Rattle.cap_account_states.proofs.KnowsLater.{backed-at}
use Rattle.cap_account_states.proofs.Roots.{values-length}
use Rattle.cap_account_steps.proofs.Stores.{running, store-alike}
use Rattle.cap_account_steps.proofs.Frames.{Node, Sits}
use Rattle.cap_account.proofs.Parts.{AreGuards}
use Rattle.cap_account.proofs.Stocked.{part_stock, owner_of, owner_at, known_by, account_table, Callee, callee_of}
use Rattle.cap_account.proofs.Valid.{accounts-are-valid}
use Rattle.cap_outline_laws.specs.Laws.{OneIs}
use Rattle.cap_outline_laws.proofs.Listed.{Listed}
use Rattle.cap_outline_laws.proofs.Sitting.{holds-at}
use Rattle.cap_owners_spec.specs.Traced.{Traced, traced, past_width, untold, valuation}
use Rattle.cap_owners_spec.specs.Track.{Place, TrackedRegion, TrackedFrame, Track, tracked_at, account_of}
use Rattle.cap_owners_spec.specs.Walks.{Walk, Halt, stands, leaves}
use Rattle.cap_owners_spec.specs.Steps.{frame_walk}
use Rattle.cap_owners_walks_laws.proofs.Fills.Drawn.{Tells}
use Rattle.cap_owners_laws.specs.Owned.{IsTold, choice_at, IsRunning, IsWaiting, IsAt, StopsWhere, AreWaiting, IsThreadFound, AreThreadsFound}
use Rattle.cap_owners_runs_laws.proofs.Tracks.Tied.{nodes_of, StopsSo, derivation, IsAtNode, IsSeated, AllWaitTied, StackTied}
use Rattle.cap_owners_runs_laws.proofs.Tracks.Runs.{TrackLaw}

-- ---- lists

one-among : {X : Type 0} (x : X) (xs : List X) → Among x xs → OneIs (λ y. y ≡ x) xs
one-among x [] h = absurd h
one-among x (y ∷ ys) (inl e) = inl e
one-among x (y ∷ ys) (inr k) = inr (one-among x ys k)

zip-length :
    {A B : Type 0} (R : A → B → Type 0) (xs : List A) (ys : List B) → AllZip R xs ys →
    length ys ≡ length xs
zip-length R [] [] h = refl
zip-length R [] (y ∷ ys) h = absurd h
zip-length R (x ∷ xs) [] h = absurd h
zip-length R (x ∷ xs) (y ∷ ys) h = ap suc (zip-length R xs ys h.1)

found-told :
    (P : Place → Walk → Type 0) (Q : Place → List NameValue → Type 0) →
    ((q : Place) (w : Walk) → P q w → Q q w.values) → (o : Traced Halt) →
    IsTold (StopsSo P) o → IsTold (StopsWhere Q) o
found-told P Q f (traced (stands q w)) h = f q w h
found-told P Q f (traced (leaves w)) h = h
found-told P Q f past_width h = tt
found-told P Q f untold h = h

-- ---- the table of a track

find-mapped :
    (rs : List TrackedRegion) (n : ℤ) →
    option_map (λ r. known_as r.owned.region.kind r.owned.region.args (Some r.owned.region.state))
    (tracked_at rs n)
    ≡ option_map known_by (owner_at (map owner_of (map (λ r. r.owned) rs)) n)
find-mapped [] n = refl
find-mapped (r ∷ rs) n = by (same_number r.owned.region.number n) (find-mapped rs n)
  where
    by :
        (b : Bool) →
        option_map
        (λ (r : TrackedRegion).
        known_as r.owned.region.kind r.owned.region.args (Some r.owned.region.state))
        (tracked_at rs n)
        ≡ option_map known_by (owner_at (map owner_of (map (λ (r : TrackedRegion). r.owned) rs)) n) →
        option_map
        (λ (r : TrackedRegion).
        known_as r.owned.region.kind r.owned.region.args (Some r.owned.region.state))
        (if b then Some r else tracked_at rs n)
        ≡ option_map known_by
        (if b then Some (owner_of r.owned)
        else owner_at (map owner_of (map (λ (r : TrackedRegion). r.owned) rs)) n)
    by true h = refl
    by false h = h

pub track-tells : (k : Track) → Tells k.regions (account_table (account_of k))
track-tells k n = find-mapped k.regions n

-- ---- frames

guards-are : (p : PlainProgram) (R : List Region) (q : Part) → GuardsFit p R q → AreGuards p q
guards-are p R q fits n = by (guard_at q n) refl
  where
    by : (o : Option Guard) → guard_at q n ≡ o → IsGuard p o
    by None e = tt
    by (Some g) e = (fits n g e).1

module _ (program : PlainProgram) (trees : List (Option PlainTree)) where
  abbrev p : Checked
  p = nodes_of program trees

  first-is :
      (t : PlainTree) (s : PlainState) (tasks : List PlainTask) →
      Listed program (program_nodes program trees) t s tasks →
      Among (record { goal = goal s tasks; choice = choice_at t }) (program_nodes program trees)
  first-is (node c ks) s tasks h = h.1 (record { goal = goal s tasks; choice = c }) (inl refl)

  -- the same node by alike values
  abbrev node_alike :
      (part : Stock) (T : Table) (fn : PlainFunction) (fixed : List NameValue) (f : Frame)
      (tasks : Home → List PlainTask) (t : PlainTree) (n : Node p part T fn fixed f tasks t)
      (w : Valuation) → Alike (Old n.state) n.v w → length fixed ≡ length fn.fixed →
      Node p part T fn fixed f tasks t
  node_alike part T fn fixed f tasks t n w a size = record {
    state = n.state;
    v = w;
    home = n.home;
    valid = n.valid;
    none_open = n.none_open;
    grounded = record {
      meets = meets-alike [] n.v w n.state a n.grounded.meets;
      pieces_over = n.grounded.pieces_over;
      pieces_fit = n.grounded.pieces_fit;
    };
    facts = facts-on [] n.v w T n.state n.state (same-state n.state) a n.facts;
    firm = n.firm;
    backed =
        backed-at program n.state [] (Old n.state) n.v w part (usable-old [] n.state.sorts) a
        n.grounded n.backed;
    store =
        store-alike n.v w n.state n.state n.home fn fixed f n.grounded.meets.store_over a
        (λ x o e. e) refl size n.store;
  }

  module _ (k : Track) where
    abbrev T : Table
    T = account_table (account_of k)

    abbrev regions : List Region
    regions = table (account_of k)

    at-running :
        (f : Frame) (t : TrackedFrame) (fn : PlainFunction) →
        AreGuards program t.held.part → length t.held.fixed ≡ length fn.fixed →
        (s : Sits p (part_stock t.held.part) T fn t.held.fixed f) (q : Place) (w : Walk) →
        IsAtNode p trees k.regions (part_stock t.held.part) T fn t.held.fixed f s q w →
        IsAt IsRunning (derivation p trees) regions f t.held q w.values
    at-running f t fn guards size s q w a =
        let m = s.at_node in
        let n = node_alike (part_stock t.held.part) T fn t.held.fixed f (running f.rest) s.tree m
        (valuation w.values) a.alike size in
        let there : Place = record { goal = goal m.state (running f.rest m.home); tree = s.tree } in
        let same : q ≡ there = λ i. record { goal = a.goal_is i; tree = a.tree i } in
        subst (λ x. IsAt IsRunning (derivation p trees) regions f t.held x w.values) (sym same)
        (record {
          home = m.home;
          of_function = m.store.home;
          is_node =
              one-among
              (record { goal = goal m.state (running f.rest m.home); choice = choice_at s.tree })
              (program_nodes program trees) (first-is s.tree m.state (running f.rest m.home) m.valid);
          due = refl;
          all_closed = m.none_open;
          valued = zip-length _ m.state.sorts w.values a.tidy.sorted;
          holds = holds-at p (account_of k) fn f t.held (running f.rest) s.tree guards n;
        })

    at-waiting :
        (f : Frame) (t : TrackedFrame) (fn : PlainFunction) → AreGuards program t.held.part →
        (q : Place) (w : Walk) →
        IsSeated p trees k.regions (part_stock t.held.part) T fn t.held.fixed f q w →
        IsAt IsWaiting (derivation p trees) regions f t.held q w.values
    at-waiting f t fn guards q w a =
        let n : Node p (part_stock t.held.part) T fn t.held.fixed f (λ h. q.goal.tasks) q.tree =
        record {
          state = q.goal.state;
          v = valuation w.values;
          home = a.home;
          valid = a.valid;
          none_open = a.none_open;
          grounded = a.grounded;
          facts = a.facts;
          firm = a.firm;
          backed = a.backed;
          store = a.store;
        } in
        record {
          home = a.home;
          of_function = a.store.home;
          is_node =
              one-among (record { goal = q.goal; choice = choice_at q.tree })
              (program_nodes program trees) (first-is q.tree q.goal.state q.goal.tasks a.valid);
          due = a.due;
          all_closed = a.none_open;
          valued = zip-length _ q.goal.state.sorts w.values a.tidy.sorted;
          holds = holds-at p (account_of k) fn f t.held (λ h. q.goal.tasks) q.tree guards n;
        }

    -- ---- threads

    abbrev AllFit : List TrackedFrame → Type 0
    AllFit ts = AllByRecursion (GuardsFit program regions) (map (λ h. h.part) (map (λ t. t.held) ts))

    waiting-found :
        (y : Callee) (fs : List Frame) (ts : List TrackedFrame) → AllFit ts →
        AllWaitTied p trees T y fs ts → AreWaiting (derivation p trees) k.regions regions fs ts
    waiting-found y [] [] fit h = tt
    waiting-found y [] (t ∷ ts) fit h = h
    waiting-found y (f ∷ fs) [] fit h = h
    waiting-found y (f ∷ fs) (t ∷ ts) fit h = (
      found-told
          (IsSeated p trees k.regions (part_stock t.held.part) T h.0.waited.fn t.held.fixed f)
          (IsAt IsWaiting (derivation p trees) regions f t.held)
          (at-waiting f t h.0.waited.fn (guards-are program regions t.held.part fit.0))
          (frame_walk (derivation p trees) false k.regions t t.since)
          (h.0.seated T (relies-same program (part_stock t.held.part).guards T) k.regions
          (track-tells k)),
      waiting-found (callee_of f t.held) fs ts fit.1 h.1,
    )

    thread-found :
        (fs : Thread) (ts : List TrackedFrame) → AllFit ts → StackTied p trees T fs ts →
        IsThreadFound (derivation p trees) k.regions regions fs ts
    thread-found [] [] fit h = tt
    thread-found [] (t ∷ ts) fit h = h
    thread-found (f ∷ fs) [] fit h = h
    thread-found (f ∷ fs) (t ∷ ts) fit h =
        let r = relies-same program (part_stock t.held.part).guards T in (
          found-told
              (IsAtNode p trees k.regions (part_stock t.held.part) T h.0.stood.fn t.held.fixed f
              (h.0.stood.all T r))
              (IsAt IsRunning (derivation p trees) regions f t.held)
              (at-running f t h.0.stood.fn (guards-are program regions t.held.part fit.0)
              (values-length h.0.stood.fn.fixed t.held.fixed h.0.stood.ok.values)
              (h.0.stood.all T r))
              (frame_walk (derivation p trees) false k.regions t t.since)
              (h.0.walks T r k.regions (track-tells k)),
          waiting-found (callee_of f t.held) fs ts fit.1 h.1,
        )

    threads-found :
        (ts : List Thread) (ks : List (List TrackedFrame)) → length ks ≡ length ts →
        AllByRecursion (GuardsFit program regions)
        (flat_map (map (λ h. h.part)) (map (map (λ t. t.held)) ks)) →
        ((i : ℕ) (t : Thread) (qs : List TrackedFrame) → slice_get ts i ≡ Some t →
        slice_get ks i ≡ Some qs → StackTied p trees T t qs) →
        AreThreadsFound (derivation p trees) k.regions regions ts ks
    threads-found [] [] n fit h = tt
    threads-found [] (q ∷ ks) n fit h = absurd (omega (arith, n))
    threads-found (t ∷ ts) [] n fit h = absurd (omega (arith, n))
    threads-found (t ∷ ts) (q ∷ ks) n fit h =
        let here = map (λ (h : Held). h.part) (map (λ (t : TrackedFrame). t.held) q) in
        let rest = flat_map (map (λ (h : Held). h.part)) (map (map (λ (t : TrackedFrame). t.held)) ks) in (
          thread-found t q (all-first (GuardsFit program regions) here rest fit) (h 0 t q refl refl),
          threads-found ts ks (omega (arith, n)) (all-second (GuardsFit program regions) here rest fit)
              (λ i. h (suc i)),
        )

  pub track-says : TrackLaw p trees
  track-says c k h =
      let valid = accounts-are-valid p c (account_of k) h.sound in
      let n = h.sound.count in
      let m = map-length (map (λ (t : TrackedFrame). t.held)) k.threads in
      record {
        valid = valid;
        found =
            threads-found k c.threads k.threads (sym m ∙ n)
            (all-second (GuardsFit program (table (account_of k)))
            (map (λ r. r.part) (account_of k).regions)
            (flat_map (map (λ h. h.part)) (account_of k).threads) valid.guards_fit) h.stacks;
        numbered = h.numbered;
      }
