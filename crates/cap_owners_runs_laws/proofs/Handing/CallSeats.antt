-- Where a frame that called or forked takes its seat: a caller waits there, and one that forked
-- goes on. By the table that there is then it stands with just what its state has.
use Rattle.std.proofs.Common.{◌≡◌, ℕ, zero, suc, ◌≤◌, ℤ, pos, ◌*ℤ◌, true, false, Bool, ◌==◌, if◌then◌else◌, List, [], ◌∷◌, ◌++◌, map, length, Option, Some, None, refl, sym, ap, ◌∙◌, subst, arith}
use Rattle.std.specs.Prelude.{slice_set, get_or, is_none, option_to_list}
use Rattle.std.specs.List.{AllByRecursion, AllZip}
use Rattle.std.proofs.lemmas.Slice.Zip.{AllZip-long}
use Rattle.cap_lin.specs.Linear.{Linear}
use Rattle.cap_lin.specs.Values.{Valuation, denominator, value}
use Rattle.cap_lin.specs.declared.row.Sort.TheVariants.{Int}
use Rattle.cap_prog.specs.Program.{Items, none, item, Label, call, fork, Block, first, PlainFunction, PlainProgram}
use Rattle.cap_prog.specs.WellFormed.{IsWellFormed}
use Rattle.cap_goal_spec.specs.States.{PlainState, Home, PlainTask, to_give, to_rest, goal, goal_of, goals_of}
use Rattle.cap_goal_spec.specs.Choices.{PlainTree, node, PlainTrees, no_trees, tree}
use Rattle.cap_goal_spec.specs.Environments.{zero_value}
use Rattle.cap_rules.specs.Making.{is_empty}
use Rattle.cap_rules_nodes.specs.Nodes.{goals_left}
use Rattle.cap_machine.specs.Machine.{Heap, Frame, value_in, with_rest, receives}
use Rattle.cap_machine_accounts.specs.Assertions.{NameValue}
use Rattle.cap_account_resources.specs.Parts.{cells_of, Table}
use Rattle.cap_account_resources.proofs.Interference.{relies-same}
use Rattle.cap_account_resources.proofs.Lists.{get-first, push-length}
use Rattle.cap_account_resources.proofs.Stocks.{Stock, both, Inside}
use Rattle.cap_account_resources.proofs.Tables.{new_guards}
use Rattle.cap_account_states.specs.Nodes.{Children, Open}
use Rattle.cap_account_states.proofs.Backed.{IsFirm, Backed, Grounded}
use Rattle.cap_account_states.proofs.Checked.{Checked, lone-child}
use Rattle.cap_account_states.proofs.Facts.{FactHolds, FactOver}
use Rattle.cap_account_states.proofs.Meets.{Usable, new-whole}
use Rattle.cap_account_states.proofs.Roots.{values-length}
use Rattle.cap_account_assertions.proofs.Laws.{GivenLaw, TakenLaw, Reached, RestsLaw}
use Rattle.cap_account_assertions.proofs.Named.{set_to}
use Rattle.cap_account_steps.proofs.CallSite.{Caller, TakenHere}
use Rattle.cap_account_steps.proofs.CallLaws.{call-ok, fork-ok}
use Rattle.cap_account_steps.proofs.Calling.{store-received, reached-left}
use Rattle.cap_account_steps.proofs.Entering.{firm-exact, firm-over}
use Rattle.cap_account_steps.proofs.Exact.{all-two}
use Rattle.cap_account_steps.proofs.Frames.{Roomy}
use Rattle.cap_account_steps.proofs.Points.{FrameOk}
use Rattle.cap_account_steps.proofs.Regained.{Stable}
use Rattle.cap_account_steps.proofs.Results.{with_result, alike4, result-there, result-value, firm2, grounded2, facts2, backed2}
use Rattle.cap_account_steps.proofs.Worlds.{Exact, AllOver}
use Rattle.cap_account_steps.proofs.Stores.{Store, running}
use Rattle.cap_owners_spec.specs.Traced.{Traced, traced, past_width, untold, valuation}
use Rattle.cap_owners_spec.specs.Track.{Place, TrackedRegion, TrackedFrame}
use Rattle.cap_owners_spec.specs.Walks.{Walk, Interpreting, descends, pass_tasks, Halt, stands, leaves, stops, stop_or, walk, walk_below}
use Rattle.cap_owners_spec.specs.Steps.{interpreted, frame_walk, standing}
use Rattle.cap_owners_laws.specs.Owned.{IsTold, AreNumbered}
use Rattle.cap_owners_walks_laws.proofs.Values.Changed.{valuation-put, same-put}
use Rattle.cap_owners_walks_laws.proofs.Values.More.{FitsSort}
use Rattle.cap_owners_walks_laws.proofs.Fills.Drawn.{Tells}
use Rattle.cap_owners_walks_laws.proofs.Parts.Held.{IsOf, Own}
use Rattle.cap_owners_walks_laws.proofs.Passes.Rests.{walks_into}
use Rattle.cap_owners_runs_laws.proofs.Tracks.Tied.{StopsSo, derivation, Tied, IsSeated, HasJust, WaitsTied}
use Rattle.cap_owners_runs_laws.proofs.Tracks.Seats.{Seat, seat-tied, seat-has}
use Rattle.cap_owners_runs_laws.proofs.Tracks.Waiting.{AgainLaw, call-waits}
use Rattle.cap_owners_runs_laws.proofs.Handing.CallSites.{IsOldValue, CallingHere, call_due, fork_due}
use Rattle.cap_owners_runs_laws.proofs.Handing.CallTakes.{caller, same-count, Taken_here, own, tk, callee_names, inside-left, taken_walk, tells-then}
use Rattle.cap_owners_runs_laws.proofs.Steps.Standing.{StandsWith, stands-just}

-- ---- where a walk to a seat stops

-- at the first goal of these tasks, whichever the state, as long as there is nothing to give and no
-- step to come
abbrev pub IsStopping : List PlainTask → Type 0
IsStopping us =
    (s : PlainState) →
    (ts : List PlainTask) × (goal_of s us ≡ Some (goal s ts))
    × ((w : Walk) → is_empty w.events ≡ true → is_none w.fill ≡ true → stops true ts w ≡ true)

-- facts that are to rest come first, if there are any
pub rest-stops : (n : ℕ) (us : List PlainTask) → IsStopping us → IsStopping (to_rest 0 n ∷ us)
rest-stops n us k s = by (0 == length s.facts) refl (k s)
  where
    by :
        (b : Bool) → (0 == length s.facts) ≡ b →
        ((ts : List PlainTask) × (goal_of s us ≡ Some (goal s ts))
        × ((w : Walk) → is_empty w.events ≡ true → is_none w.fill ≡ true → stops true ts w ≡ true))
        →
        (ts : List PlainTask) × (goal_of s (to_rest 0 n ∷ us) ≡ Some (goal s ts))
        × ((w : Walk) → is_empty w.events ≡ true → is_none w.fill ≡ true → stops true ts w ≡ true)
    by true e k = (
      k.0,
      ap (λ b. if b then goal_of s us else Some (goal s (to_rest 0 n ∷ us))) e ∙ k.1,
      k.2,
    )
    by false e k = (
      to_rest 0 n ∷ us,
      ap (λ b. if b then goal_of s us else Some (goal s (to_rest 0 n ∷ us))) e,
      λ w empty free. empty,
    )

pub run-stops : (b : Block) (h : Home) → IsStopping (running b h)
run-stops b h s = (running b h, refl, λ w empty free. empty)

pub call-stops :
    (l : Label) (b : Block) (g : PlainFunction) (e : ℕ) (h : Home) →
    IsStopping (call_due l b g e h)
call-stops l b g e h s = by g.ensures.items
  where
    by :
        (items : Items) →
        (ts : List PlainTask)
        × (goal_of s (to_give items e l.number ∷ running b h) ≡ Some (goal s ts))
        × ((w : Walk) → is_empty w.events ≡ true → is_none w.fill ≡ true → stops true ts w ≡ true)
    by none = (running b h, refl, λ w empty free. empty)
    by (item i more) =
        (to_give (item i more) e l.number ∷ running b h, refl, λ w empty free. free)

-- the walk stops at this place, where the lone tree is
pub record StopsAt (p : Checked) (enter : Interpreting) (kids : PlainTrees) (s : PlainState)
    (us : List PlainTask) (w : Walk) : Type 0 where
  pub place : Place
  pub tree_is : kids ≡ tree place.tree no_trees
  pub goal_is : goals_of s us ≡ place.goal ∷ []
  pub walks : walks_into true enter p.program kids (goals_of s us) w ≡ traced (stands place w)

pub stops-at :
    (p : Checked) (enter : Interpreting) (kids : PlainTrees) (s : PlainState)
    (us : List PlainTask) (w : Walk) → IsStopping us → is_empty w.events ≡ true →
    is_none w.fill ≡ true → Open p.N kids s us → StopsAt p enter kids s us w
stops-at p enter kids s us w k empty free goes =
    let g = k s in
    let goals : goals_of s us ≡ goal s g.0 ∷ [] = ap option_to_list g.1 in
    let d = lone-child p.N kids s g.0 (subst (Children p.N kids) goals goes) in
    record {
      place = record { goal = goal s g.0; tree = d.0 };
      tree_is = d.2;
      goal_is = goals;
      walks =
          (λ i. walk_below enter p.program true (d.2 i) (goals i)
          (traced (descends (Some 0) w)))
          ∙ at d.0 (g.2 w empty free);
    }
  where
    at :
        (d : PlainTree) → stops true (k s).0 w ≡ true →
        walk enter p.program true d (goal s (k s).0) w
        ≡ traced (stands (record { goal = goal s (k s).0; tree = d }) w)
    at (node c ks) e =
        ap (λ b. stop_or b (record { goal = goal s (k s).0; tree = node c ks }) w
        (walk_below enter p.program true ks
        (goals_left p.program (goal s (k s).0) c)
        (pass_tasks enter p.program s c (k s).0 w))) e

-- ---- what the destination has

-- it keeps what it has
keeps-old :
    (zs : List ℤ) (i : ℕ) (y z : ℤ) → y ≡ get_or zs i z → slice_set zs i y ≡ zs
keeps-old [] i y z e = refl
keeps-old (x ∷ zs) zero y z e = ap (λ w. w ∷ zs) e
keeps-old (x ∷ zs) (suc i) y z e = ap (λ ws. x ∷ ws) (keeps-old zs i y z e)

-- so while there is no result the frame is as it was
pub stays-old :
    (s : PlainState) (vs : List NameValue) (h : Home) (fn : PlainFunction)
    (fixed : List NameValue) (f : Frame) (r0 b : Block) (x : Option ℕ) (z : ℤ) →
    Store (valuation vs) s h fn fixed (with_rest f r0) → IsOldValue s vs x z →
    receives x z (with_rest f b) ≡ with_rest f b
stays-old s vs h fn fixed f r0 b None z st old = refl
stays-old s vs h fn fixed f r0 b (Some i) z st old =
    ap (λ (ws : List ℤ). record (with_rest f b) { store = ws })
    (keeps-old f.store i z (value (valuation vs).whole zero_value)
    (old i refl
    ∙ get-map-or (value (valuation vs).whole) s.store i zero_value
    ∙ ap (λ ws. get_or ws i (value (valuation vs).whole zero_value)) st.store))
  where
    get-map-or :
        {A B : Type 0} (f : A → B) (xs : List A) (i : ℕ) (d : A) →
        f (get_or xs i d) ≡ get_or (map f xs) i (f d)
    get-map-or f [] i d = refl
    get-map-or f (x ∷ xs) zero d = refl
    get-map-or f (x ∷ xs) (suc i) d = get-map-or f xs i d

-- where it stops this holds too
stops-more :
    (P Q : Place → Walk → Type 0) → ((q : Place) (w : Walk) → P q w → Q q w) →
    (o : Traced Halt) → IsTold (StopsSo P) o → IsTold (StopsSo Q) o
stops-more P Q f (traced (stands q w)) h = f q w h
stops-more P Q f (traced (leaves w)) h = h
stops-more P Q f past_width h = tt
stops-more P Q f untold h = h

-- ---- a part that is left

-- its cells are among those that there were
pub left-within :
    (p : PlainProgram) (part q : Stock) (T U : Table) (heap : Heap) →
    Inside p q (both p part (new_guards p T U)) →
    ((a z : ℤ) → part.cells a z ≤ cells_of heap a z) → (a z : ℤ) →
    q.cells a z ≤ cells_of heap a z
left-within p part q T U heap le h a z =
    let e = ap (λ (r : Stock). r.cells a z) le.1 in
    let l = h a z in omega (arith, e, l)

module _ (p : Checked) (trees : List (Option PlainTree)) (wf : IsWellFormed p.program)
    (give : GivenLaw p) (law : TakenLaw p) (rests : RestsLaw p) (stable : Stable p.program)
    (part : Stock) (T : Table) (roomy : Roomy p.program T part) (fn : PlainFunction)
    (fixed : List NameValue) (fits : AllZip FitsSort fn.fixed fixed) (f : Frame) (l : Label)
    (n : ℕ) (args : List Linear) (b : Block) (rs : List TrackedRegion) (tells : Tells rs T)
    (numbered : AreNumbered (pos 1) (map (λ r. r.region) (map (λ r. r.owned) rs))) (heap : Heap)
    (within : (a z : ℤ) → part.cells a z ≤ cells_of heap a z) (o : Traced Halt) where
  abbrev enter : Interpreting
  enter = interpreted (derivation p trees)

  -- ---- a caller

  module _ (again : AgainLaw p trees) (x : Option ℕ)
      (ok : FrameOk p.program fn fixed (with_rest f (first l (call x n args) b)))
      (h : CallingHere p trees part T fn fixed f (first l (call x n args) b) l.number n args x
      (call_due l b) rs o)
      (t : Taken_here p trees wf part T roomy fn fixed f (first l (call x n args) b) l.number n args
      x (call_due l b) rs tells numbered heap within o h) (top : TrackedFrame) where
    abbrev r0 : Block
    r0 = first l (call x n args) b

    abbrev c : Caller p part T f.store
    c = caller p trees wf part T roomy fn fixed f r0 l.number n args x (call_due l b) rs tells
        numbered heap within o h

    abbrev left : Own p.program t.took.w t.took.after t.took.left
    left = own p trees wf part T roomy fn fixed f r0 l.number n args x (call_due l b) rs tells
        numbered heap within o h t

    -- its seat
    abbrev pub call_stop : StopsAt p (interpreted (derivation p trees)) t.took.children t.took.after
        (to_rest 0 l.number ∷ call_due l b h.g (length h.state.envs) h.home)
        (taken_walk p trees wf part T roomy fn fixed f (first l (call x n args) b) l.number n args x
        (call_due l b) rs tells numbered heap within o h t)
    call_stop =
        stops-at p enter t.took.children t.took.after
        (to_rest 0 l.number ∷ call_due l b h.g (length h.state.envs) h.home)
        (taken_walk p trees wf part T roomy fn fixed f r0 l.number n args x (call_due l b) rs tells
        numbered heap within o h t)
        (rest-stops l.number (call_due l b h.g (length h.state.envs) h.home)
        (call-stops l b h.g (length h.state.envs) h.home)) refl refl t.took.goes

    abbrev pub caller_seated : TrackedFrame
    caller_seated = record top {
      seat = call_stop.place;
      values = t.values;
      given = None;
      since = [];
      awaited = length h.vs;
    }

    pub caller-waits :
        WaitsTied p trees left.own t.took.U fixed (with_rest f b)
        (record {
          destination = x;
          function = n;
          arguments = map (value_in f.store) args;
          fixed = callee_names p trees wf part T roomy fn fixed f (first l (call x n args) b)
              l.number n args x (call_due l b) rs tells numbered heap within o h t;
        })
        caller_seated
    caller-waits =
        let oks = call-ok p wf give law rests stable part T fn fixed roomy f l x n args b ok in
        let k = tk p trees wf part T roomy fn fixed f r0 l.number n args x (call_due l b) rs tells
        numbered heap within o h t in
        subst (λ m. WaitsTied p trees left.own t.took.U fixed (with_rest f b) (record {
          destination = x;
          function = n;
          arguments = map (value_in f.store) args;
          fixed = callee_names p trees wf part T roomy fn fixed f r0 l.number n args x
              (call_due l b) rs tells numbered heap within o h t;
        })
        (record top {
          seat = call_stop.place;
          values = t.values;
          given = None;
          since = [];
          awaited = m;
        }))
        (same-count p trees wf part T roomy fn fixed f r0 l.number n args x (call_due l b) rs tells
        numbered heap within o h)
        (call-waits p trees wf give law rests stable again part T roomy fn fixed fits f r0 c h.home
        h.store n h.is_g l b oks.0 oks.1 k t.values t.valued t.sorted
        (stays-old h.state h.vs h.home fn fixed f r0 b x h.z h.store h.old) call_stop.place
        call_stop.tree_is call_stop.goal_is left.just top)

    -- and stands with just what its state has
    pub caller-stands :
        IsTold (StandsWith caller_seated left.own)
        (standing (derivation p trees) (rs ++ t.made) caller_seated)
    caller-stands =
        let waits = caller-waits in
        stands-just p trees left.own heap
        (left-within p.program part left.own T t.took.U heap
        (inside-left p trees wf part T roomy fn fixed f r0 l.number n args x (call_due l b) rs tells
        numbered heap within o h t) within) caller_seated (rs ++ t.made)
        (stops-more
        (IsSeated p trees (rs ++ t.made) left.own t.took.U waits.waited.fn fixed (with_rest f b))
        (HasJust p trees left.own)
        (λ q w s. record {
          pieces_fit = s.grounded.pieces_fit;
          backed = s.backed;
          just = s.just;
        })
        (frame_walk (derivation p trees) false (rs ++ t.made) caller_seated [])
        (waits.seated t.took.U (relies-same p.program left.own.guards t.took.U) (rs ++ t.made)
        (tells-then p trees wf part T roomy fn fixed f r0 l.number n args x (call_due l b) rs tells
        numbered heap within o h t)))

  -- ---- a frame that forked

  module _ (ok : FrameOk p.program fn fixed (with_rest f (first l (fork n args) b)))
      (h : CallingHere p trees part T fn fixed f (first l (fork n args) b) l.number n args None
      (fork_due b) rs o)
      (t : Taken_here p trees wf part T roomy fn fixed f (first l (fork n args) b) l.number n args
      None (fork_due b) rs tells numbered heap within o h) (top : TrackedFrame) where
    abbrev r1 : Block
    r1 = first l (fork n args) b

    abbrev c1 : Caller p part T f.store
    c1 = caller p trees wf part T roomy fn fixed f r1 l.number n args None (fork_due b) rs tells
        numbered heap within o h

    abbrev left1 : Own p.program t.took.w t.took.after t.took.left
    left1 = own p trees wf part T roomy fn fixed f r1 l.number n args None (fork_due b) rs tells
        numbered heap within o h t

    abbrev ts1 : List PlainTask
    ts1 = to_rest 0 l.number ∷ running b h.home

    abbrev k1 : TakenHere p part T f.store c1 ts1
    k1 = tk p trees wf part T roomy fn fixed f r1 l.number n args None (fork_due b) rs tells
        numbered heap within o h t

    abbrev pub fork_stop : StopsAt p (interpreted (derivation p trees)) t.took.children t.took.after
        (to_rest 0 l.number ∷ running b h.home)
        (taken_walk p trees wf part T roomy fn fixed f (first l (fork n args) b) l.number n args
        None (fork_due b) rs tells numbered heap within o h t)
    fork_stop =
        stops-at p enter t.took.children t.took.after (to_rest 0 l.number ∷ running b h.home)
        (taken_walk p trees wf part T roomy fn fixed f r1 l.number n args None (fork_due b) rs tells
        numbered heap within o h t)
        (rest-stops l.number (running b h.home) (run-stops b h.home)) refl refl t.took.goes

    abbrev pub forker_seated : TrackedFrame
    forker_seated = record top {
      seat = fork_stop.place;
      values = t.values;
      given = None;
      since = [];
      awaited = length h.vs;
    }

    -- no variable is kept free any more, and the result's has what it had
    abbrev w1 : Valuation
    w1 = with_result p part T f.store c1 ts1 k1 h.z

    valued1 : with_result p part T f.store c1 ts1 k1 h.z ≡ valuation t.values
    valued1 =
        let m = length h.state.sorts in
        let i = push-length h.state.sorts Int in
        let size = AllZip-long FitsSort t.took.after.sorts t.values t.sorted in
        let count = k1.goes_on.count in
        ap (λ u. set_to u m h.z) t.valued
        ∙ sym (valuation-put t.values m h.z (omega (arith, size, count, i)))
        ∙ ap valuation (same-put t.took.after.sorts t.values m h.z t.sorted
        (result-there p part T f.store c1 ts1 k1 h.z)
        (ap (λ (u : Valuation). u.whole m) (sym t.valued)
        ∙ k1.alike.whole m (omega (arith, i))
        ∙ new-whole (valuation h.vs) m h.z (h.z *ℤ denominator (valuation h.vs).fraction)))

    fork-seat :
        Seat p trees left1.own t.took.U fn fixed (with_rest f b) (running b) fork_stop.place
        t.values
    fork-seat =
        let s = t.took.after in
        let firm = firm2 p part T f.store c1 ts1 k1 h.z in
        let facts = facts2 p part T f.store c1 ts1 k1 h.z in
        let R = Usable [] s.sorts Int in
        record {
          state = s;
          home = h.home;
          number = l.number;
          kids = t.took.children;
          goes = t.took.goes;
          tree_is = fork_stop.tree_is;
          goal_is = fork_stop.goal_is;
          none_open = k1.goes_on.opened ∙ h.none_open;
          grounded =
              subst (λ u. Grounded p.program [] u s) valued1
              (grounded2 p part T f.store c1 ts1 k1 h.z);
          over =
              all-two IsFirm (FactOver R) (AllOver R) (λ x i k. firm-over R x i k) s.facts firm
              facts.over;
          exact =
              subst (λ u. AllByRecursion (Exact u t.took.U) s.facts) valued1
              (all-two IsFirm (FactHolds w1 t.took.U) (Exact w1 t.took.U)
              (λ x i k. firm-exact w1 t.took.U x i k) s.facts firm facts.holds);
          backed =
              subst (λ u. Backed p.program u s left1.own) valued1
              (backed2 p part T f.store c1 ts1 k1 h.z);
          store =
              subst (λ u. Store u s h.home fn fixed (with_rest f b)) valued1
              (store-received h.state s (valuation h.vs) w1 h.home fn fixed f r1 b None h.z
              h.grounded.meets.store_over h.store (values-length fn.fixed fixed ok.values)
              (alike4 p part T f.store c1 ts1 k1 h.z)
              (result-value p part T f.store c1 ts1 k1 h.z) k1.goes_on.store
              (λ x o k. k1.goes_on.sorts x o (get-first h.state.sorts (Int ∷ []) x o k)));
          sorted = t.sorted;
        }

    at-once : Reached p.program t.took.U t.took.U left1.own
    at-once =
        reached-left p wf give law rests stable part T roomy f.store c1 ts1 k1 t.took.U
        (relies-same p.program left1.own.guards t.took.U)

    ok1 : FrameOk p.program fn fixed (with_rest f b)
    ok1 = fork-ok p wf give law rests stable part T fn fixed roomy f l n args b ok

    -- it goes on
    pub forker-tied : Tied p trees left1.own t.took.U fixed (with_rest f b) forker_seated
    forker-tied =
        seat-tied p trees wf left1.own t.took.U fn fixed (with_rest f b) ok1 at-once.fits
        at-once.room fork_stop.place t.values fork-seat fits (record top { awaited = length h.vs })

    -- and stands with just what its state has
    pub forker-stands :
        IsTold (StandsWith forker_seated left1.own)
        (standing (derivation p trees) (rs ++ t.made) forker_seated)
    unfolding fork-seat
    forker-stands =
        stands-just p trees left1.own heap
        (left-within p.program part left1.own T t.took.U heap
        (inside-left p trees wf part T roomy fn fixed f r1 l.number n args None (fork_due b) rs
        tells
        numbered heap within o h t) within) forker_seated (rs ++ t.made)
        (seat-has p trees wf left1.own t.took.U fn fixed (with_rest f b) ok1 at-once.fits
        at-once.room fork_stop.place t.values fork-seat t.took.U
        (relies-same p.program left1.own.guards t.took.U)
        (subst (λ u. IsOf p.program u t.took.after left1.own) t.valued left1.just) (rs ++ t.made)
        (tells-then p trees wf part T roomy fn fixed f r1 l.number n args None (fork_due b) rs tells
        numbered heap within o h t))
