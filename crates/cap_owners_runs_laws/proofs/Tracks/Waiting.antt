-- A frame that waits for the result of a call: whatever others do, its walk stops where it waits; and
-- once it has the result it is given what the callee promised, as that is met by then, and sits where
-- its walk stops.
use Rattle.std.proofs.Common.{◌≡◌, ◌≢◌, ◌⊎◌, inl, inr, ℕ, suc, ◌-◌, ◌<◌, ◌≤◌, ℤ, ◌*ℤ◌, false, List, [], ◌∷◌, ◌++◌, length, map, Option, Some, None, refl, sym, ap, ◌∙◌, subst, arith}
use Rattle.std.specs.Prelude.{slice_get, slice_set, get_or, if◌then◌else◌}
use Rattle.std.specs.List.{AllByRecursion, AllZip}
use Rattle.std.proofs.lemmas.Slice.Zip.{AllZip-long}
use Rattle.cap_lin.specs.Values.{Valuation, denominator}
use Rattle.cap_lin.specs.declared.row.Sort.{Sort}
use Rattle.cap_lin.specs.declared.row.Sort.TheVariants.{Int, Perm}
use Rattle.cap_prog.specs.Program.{Items, Label, Block, PlainFunction}
use Rattle.cap_prog.specs.Scopes.{Scope, fixed_start, ensures_scope}
use Rattle.cap_prog.specs.WellFormed.{IsWellFormed}
use Rattle.cap_goal_spec.specs.States.{PlainState, Home, PlainTask, to_give, PlainGoal, goal, goal_of, goals_of}
use Rattle.cap_goal_spec.specs.Choices.{PlainTree, no_trees, tree}
use Rattle.cap_goal_spec.specs.Roots.{function_unit}
use Rattle.cap_rules.specs.Making.{env_at}
use Rattle.cap_machine.specs.Machine.{Heap, Frame, value_in, with_rest, receives}
use Rattle.cap_machine_accounts.specs.Assertions.{NameValue, a_number, ValuesFit}
use Rattle.cap_account_resources.specs.Parts.{cells_of, Table}
use Rattle.cap_account_resources.proofs.Interference.{Relies, relies-same, relies-trans, relies-less}
use Rattle.cap_account_resources.proofs.Lists.{some-same, map-length, get-first, push-length}
use Rattle.cap_account_resources.proofs.Stocks.{Stock, both, Composes, inside-first, inside-second, inside-guards}
use Rattle.cap_account_resources.proofs.Tables.{fits-composes, fits-less, fits-relied}
use Rattle.cap_account_states.proofs.Alike.{Alike, alike-same, alike-trans, alike-less, agree-alike}
use Rattle.cap_account_states.proofs.Backed.{IsFirm, IsOpened, Backed, Grounded}
use Rattle.cap_account_states.proofs.Checked.{Checked, lone-child}
use Rattle.cap_account_states.proofs.Facts.{FactHolds, FactOver, Facts}
use Rattle.cap_account_states.proofs.Meets.{Usable, Old, new-whole, with-agrees}
use Rattle.cap_account_states.proofs.Naming.{Placed, placed-more, Means, means-on}
use Rattle.cap_account_states.proofs.Roots.{values-length, function-fits}
use Rattle.cap_account_assertions.proofs.Asserted.{OwnsEnsures}
use Rattle.cap_account_assertions.proofs.Laws.{StateAt, GivenLaw, TakenLaw, Reached, RestsLaw}
use Rattle.cap_account_assertions.proofs.Named.{set_to}
use Rattle.cap_account_steps.proofs.Points.{FrameOk}
use Rattle.cap_account_steps.proofs.Stores.{Store, running}
use Rattle.cap_account_steps.proofs.Callees.{fixed_values, fixed-fit}
use Rattle.cap_account_steps.proofs.CallSite.{Caller, TakenHere, kept, args_are, a1, env2, callee_fixed}
use Rattle.cap_account_steps.proofs.Calling.{store-received, after_call, reached-left, waits-here}
use Rattle.cap_account_steps.proofs.Entering.{firm-exact, firm-over}
use Rattle.cap_account_steps.proofs.Exact.{all-two}
use Rattle.cap_account_steps.proofs.Frames.{Sits, Roomy, Stands}
use Rattle.cap_account_steps.proofs.Regained.{Stable}
use Rattle.cap_account_steps.proofs.RestLaws.{exact-facts}
use Rattle.cap_account_steps.proofs.Results.{with_result, alike4, result-there, result-value, firm2, grounded2, facts2, backed2, placed2, means3}
use Rattle.cap_account_steps.proofs.Turning.{Reaching, backed-before}
use Rattle.cap_account_steps.proofs.Worlds.{Exact, AllOver}
use Rattle.cap_account.proofs.Stocked.{Callee}
use Rattle.cap_owners_spec.specs.Traced.{traced, past_width, over, ◌>>=◌, valuation}
use Rattle.cap_owners_spec.specs.Track.{Fill, Place, TrackedRegion, GivenAssertion, TrackedFrame}
use Rattle.cap_owners_spec.specs.Walks.{Interpreting, descends, Halt, stands, walk_below, walk_from}
use Rattle.cap_owners_spec.specs.Steps.{root_at, ensures_root, beginning, filled_again, fill_now, interpreted, frame_walk}
use Rattle.cap_owners_laws.specs.Owned.{IsTold}
use Rattle.cap_owners_walks_laws.proofs.Values.More.{FitsSort}
use Rattle.cap_owners_walks_laws.proofs.Values.Changed.{valuation-put, sorted-put, same-put}
use Rattle.cap_owners_walks_laws.proofs.Fills.Amounts.{items_drawn}
use Rattle.cap_owners_walks_laws.proofs.Fills.Drawn.{IsMetOr, Tells}
use Rattle.cap_owners_walks_laws.proofs.Fills.Still.{met-now}
use Rattle.cap_owners_walks_laws.proofs.Fills.Giving.{NamesFit}
use Rattle.cap_owners_walks_laws.proofs.Walks.Leading.{stops-running}
use Rattle.cap_owners_walks_laws.proofs.Passes.Rests.{into, RestsTo, rests-to}
use Rattle.cap_owners_walks_laws.proofs.Passes.Gives.{GoesTo}
use Rattle.cap_owners_walks_laws.proofs.Passes.Handed.{GivenSo, given-so}
use Rattle.cap_owners_walks_laws.proofs.Parts.Telling.{told-on}
use Rattle.cap_owners_walks_laws.proofs.Parts.Held.{IsOf}
use Rattle.cap_owners_walks_laws.proofs.Parts.Added.{of-at}
use Rattle.cap_owners_runs_laws.proofs.Tracks.Tied.{StopsSo, derivation, IsAtNode, Tied, received_by, HasJust, WaitsTied}
use Rattle.cap_owners_runs_laws.proofs.Tracks.Seats.{of-before, Seat, seat-waits}

-- ---- what was handed over, by a later table

module _ (p : Checked) (trees : List (Option PlainTree)) where
  abbrev pub given_back : ℕ → List ℤ → List NameValue → ℤ → Fill → GivenAssertion
  given_back n args fixed r x = record {
    stability = root_at (derivation p trees) (function_unit n) ensures_root;
    values = map a_number args ++ (fixed ++ a_number r ∷ []);
    fill = x;
  }

  -- it is owned again, met by a fill, which is what a track finds
  pub record AgainTo (W : Table) (handed : Stock) (n : ℕ) (g : PlainFunction) (args : List ℤ)
      (fixed : List NameValue) (r : ℤ) (x : Fill) : Type 0 where
    pub owns : OwnsEnsures p.program W handed g args fixed r
    pub fill : Fill
    pub met : IsMetOr p.program W owns.values g.ensures.items handed owns.met.0 owns.met.1 fill
    pub fits : NamesFit (ensures_scope g g.ensures.names) fill.names
    pub told :
        (rs : List TrackedRegion) → Tells rs W →
        IsTold (λ o. o ≡ Some fill)
        (fill_now (derivation p trees) rs (Some (given_back n args fixed r x)))

  -- a number is too wide, whichever regions tell the table
  abbrev pub IsTooWide : Table → ℕ → List ℤ → List NameValue → ℤ → Fill → Type 0
  IsTooWide W n args fixed r x =
      (rs : List TrackedRegion) → Tells rs W →
      fill_now (derivation p trees) rs (Some (given_back n args fixed r x)) ≡ past_width

  -- so it is by a table to which others led, of what some heap has
  abbrev pub AgainLaw : Type 0
  AgainLaw =
      (U W : Table) (handed : Stock) (n : ℕ) (g : PlainFunction) →
      slice_get p.program.functions n ≡ Some g → Reached p.program U W handed → (heap : Heap) →
      ((a z : ℤ) → handed.cells a z ≤ cells_of heap a z) → (args : List ℤ)
      (fixed : List NameValue) (r : ℤ) → length args ≡ g.params → ValuesFit g.fixed fixed → AllZip FitsSort g.fixed fixed →
      (owns : OwnsEnsures p.program U handed g args fixed r) (x : Fill) →
      IsMetOr p.program U owns.values g.ensures.items handed owns.met.0 owns.met.1 x →
      NamesFit (ensures_scope g g.ensures.names) x.names →
      IsTooWide W n args fixed r x ⊎ AgainTo W handed n g args fixed r x

  -- by the table by which it was handed over it is met as it was
  abbrev again-now :
      (U : Table) (handed : Stock) (n : ℕ) (g : PlainFunction) (args : List ℤ)
      (fixed : List NameValue) (r : ℤ) (owns : OwnsEnsures p.program U handed g args fixed r)
      (x : Fill) → IsMetOr p.program U owns.values g.ensures.items handed owns.met.0 owns.met.1 x →
      NamesFit (ensures_scope g g.ensures.names) x.names → AgainTo U handed n g args fixed r x
  again-now U handed n g args fixed r owns x met fits =
      let d = derivation p trees in
      record {
        owns = owns;
        fill = x;
        met = met;
        fits = fits;
        told = λ rs tells.
            let back = given_back n args fixed r x in
            subst (λ b. IsTold (λ o. o ≡ Some x)
            ((if b then traced x else filled_again d rs back back.stability) >>= λ f.
            traced (Some f)))
            (sym (met-now p.program U owns.values rs tells g.ensures.items handed owns.met.0
            owns.met.1 x met.facts)) refl;
      }

-- values of fixed names, over the one denominator
pub fixed-sorted :
    (a : Valuation) (x : ℕ) (os : List Sort) → a.fraction.under ≡ over - 1 →
    AllZip FitsSort os (fixed_values a x os)
fixed-sorted a x [] e = tt
fixed-sorted a x (Int ∷ os) e = (tt, fixed-sorted a (suc x) os e)
fixed-sorted a x (Perm ∷ os) e = (e, fixed-sorted a (suc x) os e)

-- where a frame goes on behind the result
rest-of : (y : Option ℕ) (r : ℤ) (f : Frame) (b : Block) → (receives y r (with_rest f b)).rest ≡ b
rest-of None r f b = refl
rest-of (Some x) r f b = refl

-- ---- the caller

module _ (p : Checked) (trees : List (Option PlainTree)) (program : IsWellFormed p.program)
    (give : GivenLaw p) (take : TakenLaw p) (rests : RestsLaw p) (stable : Stable p.program)
    (again : AgainLaw p trees) (part : Stock) (T : Table) (roomy : Roomy p.program T part)
    (fn : PlainFunction) (fixed : List NameValue) (fixed_fit : AllZip FitsSort fn.fixed fixed)
    (f : Frame) (r0 : Block) (c : Caller p part T f.store) (h : Home)
    (st : Store c.v c.s h fn fixed (with_rest f r0)) (n : ℕ)
    (is_g : slice_get p.program.functions n ≡ Some c.g) (l : Label) (b : Block)
    (ok : FrameOk p.program fn fixed (with_rest f b))
    (later : (r : ℤ) → FrameOk p.program fn fixed (receives c.x r (with_rest f b)))
    (tk : TakenHere p part T f.store c
    (after_call p program give take rests stable c.g (length c.s.envs) l h b)) (vs : List NameValue)
    (named : tk.w ≡ valuation vs) (sorted : AllZip FitsSort tk.after.sorts vs)
    (stays : receives c.x c.z (with_rest f b) ≡ with_rest f b) (q : Place)
    (tree_is : tk.children ≡ tree q.tree no_trees)
    (goal_is : goals_of tk.after
    (after_call p program give take rests stable c.g (length c.s.envs) l h b) ≡ q.goal ∷ [])
    (just : IsOf p.program tk.w tk.after tk.left) where
  abbrev ts : List PlainTask
  ts = after_call p program give take rests stable c.g (length c.s.envs) l h b

  abbrev items : Items
  items = c.g.ensures.items

  abbrev e : ℕ
  e = length c.s.envs

  abbrev sc : Scope
  sc = ensures_scope c.g c.g.ensures.names

  abbrev due : Home → List PlainTask
  due k = to_give c.g.ensures.items (length c.s.envs) l.number ∷ running b k

  abbrev callee : Callee
  callee = record {
    destination = c.x;
    function = n;
    arguments = args_are p part T f.store c;
    fixed = callee_fixed p part T f.store c ts tk;
  }

  -- the result's variable
  abbrev result_at : ℕ
  result_at = length c.s.sorts

  there : length c.s.sorts < length vs
  there =
      let m = AllZip-long FitsSort tk.after.sorts vs sorted in
      let k = tk.goes_on.count in
      let i = push-length c.s.sorts Int in
      omega (arith, m, k, i)

  abbrev with_it : ℤ → List NameValue
  with_it r = slice_set vs (length c.s.sorts) (a_number r)

  valued :
      (r : ℤ) →
      with_result p part T f.store c ts tk r
      ≡ valuation (slice_set vs (length c.s.sorts) (a_number r))
  valued r =
      ap (λ w. set_to w (length c.s.sorts) r) named ∙ sym (valuation-put vs result_at r there)

  -- ---- its seat

  seat :
      (r : ℤ) →
      Seat p trees tk.left tk.U fn fixed (receives c.x r (with_rest f b)) due q (with_it r)
  seat r =
      let w = with_result p part T f.store c ts tk r in
      let firm = firm2 p part T f.store c ts tk r in
      let facts = facts2 p part T f.store c ts tk r in
      let R = Usable [] tk.after.sorts Int in
      let v = valuation (with_it r) in
      record {
        state = tk.after;
        home = h;
        number = l.number;
        kids = tk.children;
        goes = tk.goes;
        tree_is = tree_is;
        goal_is = goal_is;
        none_open = tk.goes_on.opened ∙ c.none_open;
        grounded =
            subst (λ u. Grounded p.program [] u tk.after) (valued r)
            (grounded2 p part T f.store c ts tk r);
        over =
            all-two IsFirm (FactOver R) (AllOver R) (λ x i k. firm-over R x i k) tk.after.facts firm
            facts.over;
        exact =
            subst (λ u. AllByRecursion (Exact u tk.U) tk.after.facts) (valued r)
            (all-two IsFirm (FactHolds w tk.U) (Exact w tk.U) (λ x i k. firm-exact w tk.U x i k)
            tk.after.facts firm facts.holds);
        backed =
            subst (λ u. Backed p.program u tk.after tk.left) (valued r)
            (backed2 p part T f.store c ts tk r);
        store =
            subst (λ u. Store u tk.after h fn fixed (receives c.x r (with_rest f b))) (valued r)
            (store-received c.s tk.after c.v w h fn fixed f r0 b c.x r c.grounded.meets.store_over st
            (values-length fn.fixed fixed ok.values) (alike4 p part T f.store c ts tk r)
            (result-value p part T f.store c ts tk r) tk.goes_on.store
            (λ x o k. tk.goes_on.sorts x o (get-first c.s.sorts (Int ∷ []) x o k)));
        sorted =
            sorted-put tk.after.sorts vs result_at Int (a_number r) sorted
            (result-there p part T f.store c ts tk r) tt;
      }

  -- whatever the result, the state has just what it has
  just-result : (r : ℤ) → IsOf p.program (valuation (with_it r)) tk.after tk.left
  just-result r =
      let n = length c.s.sorts in
      let w = with_result p part T f.store c ts tk r in
      let apart = λ (x : ℕ). x ≢ n in
      subst (λ u. IsOf p.program u tk.after tk.left) (valued r)
      (of-at p.program tk.after (kept p part T f.store c) apart tk.w w tk.left (λ o x i. i.1.0)
      (agree-alike apart tk.w w
      (with-agrees apart tk.w n r (r *ℤ denominator tk.w.fraction) (λ x i. i)))
      tk.ready.grounded just)

  abbrev SeatJust : Frame → List NameValue → Type 0
  SeatJust g xs =
      (x : Seat p trees tk.left tk.U fn fixed g due q xs)
      × IsOf p.program (valuation xs) x.state tk.left

  seat-just : (r : ℤ) → SeatJust (receives c.x r (with_rest f b)) (with_it r)
  unfolding seat
  seat-just r = (seat r, just-result r)

  -- while there is no result, its variable has the value that the destination has
  same-values : with_it c.z ≡ vs
  same-values =
      same-put tk.after.sorts vs result_at c.z sorted (result-there p part T f.store c ts tk c.z)
      (ap (λ (u : Valuation). u.whole result_at) (sym named)
      ∙ tk.alike.whole result_at (let i = push-length c.s.sorts Int in omega (arith, i))
      ∙ new-whole c.v result_at c.z (c.z *ℤ denominator c.v.fraction))

  seat-first : SeatJust (with_rest f b) vs
  seat-first =
      subst (SeatJust (with_rest f b)) same-values
      (subst (λ g. SeatJust g (with_it c.z)) stays (seat-just c.z))

  at-once : Reached p.program tk.U tk.U tk.left
  at-once =
      reached-left p program give take rests stable part T roomy f.store c ts tk tk.U
      (relies-same p.program tk.left.guards tk.U)

  -- the frame, seated where it waits
  abbrev pub waiting_at : TrackedFrame → TrackedFrame
  waiting_at t = record t {
    seat = q;
    values = vs;
    given = None;
    since = [];
    awaited = length c.s.sorts;
  }

  -- ---- it has the result, and what the callee handed over

  module _ (U : Table) (relies : Relies p.program tk.left.guards tk.U U) (handed : Stock) (r : ℤ)
      (room : Roomy p.program U (both p.program tk.left handed))
      (owns : OwnsEnsures p.program U handed c.g (args_are p part T f.store c)
      (callee_fixed p part T f.store c ts tk) r) (x : Fill)
      (met : IsMetOr p.program U owns.values c.g.ensures.items handed owns.met.0 owns.met.1 x)
      (fits : NamesFit (ensures_scope c.g c.g.ensures.names) x.names) where
    abbrev whole : Stock
    whole = both p.program tk.left handed

    abbrev vs1 : List NameValue
    vs1 = slice_set vs (length c.s.sorts) (a_number r)

    abbrev g : Frame
    g = receives c.x r (with_rest f b)

    -- the promise is met by the later table
    again-at :
        (heap : Heap) → ((a z : ℤ) → handed.cells a z ≤ cells_of heap a z) → (W : Table) →
        Relies p.program (both p.program tk.left handed).guards U W →
        IsTooWide p trees W n (args_are p part T f.store c) (callee_fixed p part T f.store c ts tk)
        r x
        ⊎ AgainTo p trees W handed n c.g (args_are p part T f.store c)
        (callee_fixed p part T f.store c ts tk) r x
    again-at heap within W on =
        let P = p.program in
        again U W handed n c.g is_g (record {
          fits = room.fits;
          full = room.full;
          room = fits-less P U handed whole (inside-second P tk.left handed) room.room;
          relies =
              relies-less P handed.guards whole.guards U W
              (inside-guards P handed whole (inside-second P tk.left handed)) on;
        }) heap within (args_are p part T f.store c) (callee_fixed p part T f.store c ts tk) r
        (map-length (value_in f.store) c.args ∙ c.size)
        (fixed-fit (a1 p part T f.store c ts tk) (fixed_start c.g) c.g.fixed)
        (fixed-sorted (a1 p part T f.store c ts tk) (fixed_start c.g) c.g.fixed
        (ap (λ (u : Valuation). u.fraction.under) named)) owns x met fits

    module _ (W : Table)
        (on : Relies p.program (both p.program tk.left handed).guards U W)
        (ag : AgainTo p trees W handed n c.g (args_are p part T f.store c)
        (callee_fixed p part T f.store c ts tk) r x) where
      abbrev reaching : Reaching p.program tk.left tk.U W
      reaching =
          let P = p.program in record {
            regions = program.regions;
            fits = at-once.fits;
            room = at-once.room;
            relies =
                relies-trans P tk.left.guards tk.U U W relies
                (relies-less P tk.left.guards whole.guards U W
                (inside-guards P tk.left whole (inside-first P tk.left handed)) on);
          }

      -- its own facts have rested
      rt : RestsTo p tk.left tk.U W reaching l.number (due h) 0 tk.after tk.children vs1
      unfolding seat
      rt =
          rests-to p tk.left tk.U W reaching l.number (due h) tk.after tk.children vs1 (seat r).sorted
          (seat r).grounded (seat r).over (seat r).exact (seat r).backed tk.goes

      abbrev s1' : PlainState
      s1' = rt.rest.after

      abbrev v1' : Valuation
      v1' = valuation rt.values

      env-same : env_at s1' e ≡ env2 p part T f.store c ts tk
      env-same = ap (λ es. get_or es e []) rt.rest.as_before.envs

      placed-now : Placed [] sc s1'.sorts (env_at s1' e)
      placed-now =
          subst (Placed [] sc s1'.sorts) (sym env-same)
          (placed-more [] sc tk.after.sorts s1'.sorts (env2 p part T f.store c ts tk)
          rt.rest.as_before.goes_on.sorts (placed2 p part T f.store c ts tk r))

      means-now :
          ag.owns.values.fraction.under ≡ over - 1 → Means sc v1' (env_at s1' e) ag.owns.values
      means-now under =
          let env = env2 p part T f.store c ts tk in
          let o = ag.owns in
          subst (λ u. Means sc v1' u o.values) (sym env-same)
          (subst (λ u. Means sc u env o.values) rt.valued
          (means-on [] sc tk.after (valuation vs1) rt.rest.w env o.values
          (placed2 p part T f.store c ts tk r) rt.rest.as_before.agree
          (subst (λ u. Means sc u env o.values) (valued r)
          (means3 p part T f.store c ts tk r o.values o.args_are o.fixed_are o.result_is
          (under ∙ sym (ap (λ (u : Valuation). u.fraction.under) named))))))

      state-now : StateAt p.program [] W sc e v1' s1'
      state-now = record {
        grounded = subst (λ u. Grounded p.program [] u s1') rt.valued rt.rest.grounded;
        facts =
            subst (λ u. Facts [] u W s1') rt.valued
            (exact-facts rt.rest.w W s1' rt.rest.firm rt.rest.exact rt.rest.over);
        opened =
            subst (AllByRecursion (IsOpened (Usable [] s1'.sorts Int) v1' W))
            (sym (rt.rest.as_before.goes_on.opened ∙ tk.goes_on.opened ∙ c.none_open)) tt;
        there = subst (λ es. e < length es) (sym rt.rest.as_before.envs) tk.ready.there;
        placed = placed-now;
      }

      remains : (s : PlainState) → (m : PlainGoal) × (goal_of s (running b h) ≡ Some m)
      remains s = (goal s (running b h), refl)

      composes : Composes (both p.program tk.left handed)
      composes =
          fits-composes p.program W whole
          (fits-relied p.program U W whole room.full on room.room)

      -- and it is given the promise
      gv : GivenSo p W sc e l.number tk.left handed (running b h) remains composes items
          ag.fill rt.rest.children rt.values rt.rest.after
          (items_drawn p.program W ag.owns.values c.g.ensures.items handed ag.owns.met.0
          ag.owns.met.1)
      unfolding seat
      gv =
          given-so p W sc e l.number tk.left handed (running b h) remains composes items ag.fill
          ag.owns.values ag.owns.met.0 ag.owns.met.1 ag.met ag.fits rt.rest.children rt.values s1'
          rt.rest.goes state-now rt.rest.firm means-now
          (function-fits p.program program n c.g is_g).ensures.items.items
          (subst (λ u. Backed p.program u s1' tk.left) rt.valued
          (backed-before p.program [] (valuation vs1) rt.rest.w tk.after s1' rt.rest.as_before
          (seat r).grounded tk.left (seat r).backed)) rt.sorted

      kid : (d : PlainTree) × p.N d gv.after (running b h)
          × (gv.children ≡ tree d no_trees)
      kid = lone-child p.N gv.children gv.after (running b h) gv.goes

      -- old variables have their values still
      was : Alike (Old tk.after) (with_result p part T f.store c ts tk r) gv.w
      was =
          let c2 = rt.rest.as_before.goes_on.count in
          subst (λ u. Alike (Old tk.after) u gv.w) (sym (valued r))
          (alike-trans (Old tk.after) (valuation vs1) rt.rest.w gv.w
          (agree-alike (Old tk.after) (valuation vs1) rt.rest.w rt.rest.as_before.agree)
          (alike-less (Old tk.after) (Old s1') rt.rest.w gv.w (λ x i. omega (arith, i, c2))
          (subst (λ u. Alike (Old s1') u gv.w) (sym rt.valued)
          (agree-alike (Old s1') v1' gv.w gv.agree))))

      since : Alike (Old c.s) c.v gv.w
      since =
          let c0 = push-length c.s.sorts Int in
          let c1 = tk.goes_on.count in
          let w = with_result p part T f.store c ts tk r in
          alike-trans (Old c.s) c.v w gv.w (alike4 p part T f.store c ts tk r)
          (alike-less (Old c.s) (Old tk.after) w gv.w (λ x i. omega (arith, i, c0, c1)) was)

      store-now : Store gv.w gv.after h fn fixed (receives c.x r (with_rest f b))
      store-now =
          let c0 = push-length c.s.sorts Int in
          let c1 = tk.goes_on.count in
          store-received c.s gv.after c.v gv.w h fn fixed f r0 b c.x r c.grounded.meets.store_over st
          (values-length fn.fixed fixed ok.values) since
          (was.whole result_at (omega (arith, c0, c1)) ∙ result-value p part T f.store c ts tk r)
          (gv.goes_on.store ∙ rt.rest.as_before.goes_on.store ∙ tk.goes_on.store) (λ x o k.
          gv.goes_on.sorts x o (rt.rest.as_before.goes_on.sorts x o
          (tk.goes_on.sorts x o (get-first c.s.sorts (Int ∷ []) x o k))))

      abbrev sits : Sits p (both p.program tk.left handed) W fn fixed
          (receives c.x r (with_rest f b))
      sits = record {
        tree = kid.0;
        at_node = record {
          state = gv.after;
          v = gv.w;
          home = h;
          valid =
              subst (λ d. p.N kid.0 gv.after (running d h)) (sym (rest-of c.x r f b)) kid.1;
          none_open =
              gv.goes_on.opened
              ∙ rt.rest.as_before.goes_on.opened
              ∙ tk.goes_on.opened
              ∙ c.none_open;
          grounded = gv.grounded;
          facts = gv.facts;
          firm = gv.firm;
          backed = gv.backed;
          store = store-now;
        };
      }

      -- where a walk from the seat stops
      abbrev stop : List TrackedRegion → Halt
      stop rs = stands (record { goal = goal gv.after (running b h); tree = kid.0 })
          (record (beginning rs vs1 [] gv.left []) { values = gv.values })

      abbrev enter : Interpreting
      enter = interpreted (derivation p trees)

      stopped :
          (rs : List TrackedRegion) → Tells rs W →
          GoesTo
          (walk_from enter p.program false q (beginning rs vs1 [] (Some ag.fill) []))
          (traced (stop rs))
      stopped rs tells =
          let w = beginning rs vs1 [] (Some ag.fill) [] in
          let into_seat : into enter p.program tk.children (goals_of tk.after ts) w
          ≡ walk_from enter p.program false q w =
          λ i. walk_below enter p.program false (tree_is i) (goal_is i)
          (traced (descends (Some 0) w)) in
          let last : into enter p.program gv.children (goals_of gv.after (running b h))
          (record w { values = gv.values; fill = gv.left })
          ≡ traced (stop rs) =
          (λ i. walk_below enter p.program false (kid.2 i) (goal gv.after (running b h) ∷ [])
          (traced (descends (Some 0) (record w { values = gv.values; fill = gv.left }))))
          ∙ stops-running p enter kid.0 gv.after h b []
          (record w { values = gv.values; fill = gv.left }) in
          elim (rt.walks enter w tells) [
            | inl wide ↦ inl (sym into_seat ∙ wide)
            | inr on ↦ elim (gv.walks enter w) [
              | inl wide ↦ inl (sym into_seat ∙ on ∙ wide)
              | inr there ↦ inr (sym into_seat ∙ on ∙ there ∙ last)
            ]
          ]

      at-node :
          (rs : List TrackedRegion) →
          StopsSo (IsAtNode p trees rs (both p.program tk.left handed) W fn fixed
          (receives c.x r (with_rest f b)) sits) (stop rs)
      at-node rs = record {
        tree = refl;
        goal_is = ap (λ d. goal gv.after (running d h)) (sym (rest-of c.x r f b));
        alike = subst (Alike (Old gv.after) gv.w) gv.valued (alike-same (Old gv.after) gv.w);
        tidy = record { sorted = gv.sorted; regions = refl; next = refl; events = refl };
      }

      -- a walk comes there, or is too wide
      walks-then :
          (Q : Halt → Type 0) (rs : List TrackedRegion) → Tells rs W → Q (stop rs) →
          IsTold Q
          (fill_now (derivation p trees) rs (Some (given_back p trees n
          (args_are p part T f.store c) (callee_fixed p part T f.store c ts tk) r x)) >>= λ o.
          walk_from (interpreted (derivation p trees)) p.program false q
          (beginning rs (slice_set vs (length c.s.sorts) (a_number r)) [] o []))
      walks-then Q rs tells there =
          told-on (λ o. o ≡ Some ag.fill) Q
          (fill_now (derivation p trees) rs (Some (given_back p trees n
          (args_are p part T f.store c) (callee_fixed p part T f.store c ts tk) r x)))
          (λ o. walk_from enter p.program false q (beginning rs vs1 [] o [])) (ag.told rs tells)
          (λ o m. subst (λ o. IsTold Q (walk_from enter p.program false q (beginning rs vs1 [] o [])))
          (sym m) (elim (stopped rs tells) [
            | inl wide ↦ subst (IsTold Q) (sym wide) tt
            | inr on ↦ subst (IsTold Q) (sym on) there
          ]))

      -- where all that was handed over is drawn, its state has just that beside its part
      has-just :
          (rs : List TrackedRegion) →
          items_drawn p.program W ag.owns.values c.g.ensures.items handed ag.owns.met.0
          ag.owns.met.1
          ≡ handed →
          StopsSo (HasJust p trees (both p.program tk.left handed)) (stop rs)
      unfolding seat
      has-just rs drawn = record {
        pieces_fit = gv.grounded.pieces_fit;
        backed = subst (λ u. Backed p.program u gv.after whole) gv.valued gv.backed;
        just =
            subst (λ u. IsOf p.program u gv.after whole) gv.valued
            (subst (λ z. IsOf p.program gv.w gv.after (both p.program tk.left z)) drawn
            (gv.just tk.left (subst (λ u. IsOf p.program u s1' tk.left) rt.valued
            (of-before p.program (valuation vs1) rt.rest.w tk.after s1' tk.left rt.rest.as_before
            (seat r).grounded (just-result r)))));
      }

    -- soundness's frame
    sound-back : Stands p (both p.program tk.left handed) U fixed (receives c.x r (with_rest f b))
    sound-back =
        ((waits-here p program give take rests stable part T roomy fn fixed
        (values-length fn.fixed fixed ok.values) f r0 c h st n is_g l b tk ok later).back U relies
        handed r c.g is_g room owns).stands

    -- at the later table it sits, and its walk stops there
    record BackAt (W : Table) (t : TrackedFrame) : Type 0 where
      sits : Sits p (both p.program tk.left handed) W fn fixed (receives c.x r (with_rest f b))
      walks :
          (rs : List TrackedRegion) → Tells rs W →
          IsTold
          (StopsSo (IsAtNode p trees rs (both p.program tk.left handed) W fn fixed
          (receives c.x r (with_rest f b)) sits))
          (frame_walk (derivation p trees) false rs
          (received_by p trees callee r (waiting_at t) x) [])

    back-at :
        (W : Table) → Relies p.program (both p.program tk.left handed).guards U W →
        (t : TrackedFrame) →
        (IsTooWide p trees W n (args_are p part T f.store c)
        (callee_fixed p part T f.store c ts tk) r x
        ⊎ AgainTo p trees W handed n c.g (args_are p part T f.store c)
        (callee_fixed p part T f.store c ts tk) r x) → BackAt W t
    back-at W on t (inr ag) = record {
      sits = sits W on ag;
      walks = λ rs tells.
          walks-then W on ag
          (StopsSo (IsAtNode p trees rs (both p.program tk.left handed) W fn fixed
          (receives c.x r (with_rest f b)) (sits W on ag))) rs tells (at-node W on ag rs);
    }
    back-at W on t (inl wide) =
        let same = some-same sound-back.fn fn (sym sound-back.ok.is_fn ∙ (later r).is_fn) in
        let s = subst (λ k. Sits p whole W k fixed g) same (sound-back.all W on) in
        record {
          sits = s;
          walks = λ rs tells.
              let Q = StopsSo (IsAtNode p trees rs whole W fn fixed g s) in
              subst (λ o. IsTold Q (o >>= λ o.
              walk_from (interpreted (derivation p trees)) p.program false q
              (beginning rs vs1 [] o []))) (sym (wide rs tells)) tt;
        }

    -- so it is tied again
    pub back-tied :
        (heap : Heap) → ((a z : ℤ) → handed.cells a z ≤ cells_of heap a z) → (t : TrackedFrame) →
        Tied p trees (both p.program tk.left handed) U fixed (receives c.x r (with_rest f b))
        (received_by p trees callee r (waiting_at t) x)
    back-tied heap within t = record {
      stood = record {
        fn = fn;
        ok = later r;
        all = λ W on. (back-at W on t (again-at heap within W on)).sits;
      };
      fits = fixed_fit;
      walks = λ W on rs tells. (back-at W on t (again-at heap within W on)).walks rs tells;
    }

    -- and has just that more
    pub regains-just :
        items_drawn p.program U owns.values c.g.ensures.items handed owns.met.0 owns.met.1
        ≡ handed →
        (rs : List TrackedRegion) → Tells rs U → (t : TrackedFrame) →
        IsTold (StopsSo (HasJust p trees (both p.program tk.left handed)))
        (frame_walk (derivation p trees) false rs (received_by p trees callee r (waiting_at t) x) [])
    regains-just drawn rs tells t =
        let on = relies-same p.program whole.guards U in
        let ag = again-now p trees U handed n c.g (args_are p part T f.store c)
        (callee_fixed p part T f.store c ts tk) r owns x met fits in
        walks-then U on ag (StopsSo (HasJust p trees whole)) rs tells (has-just U on ag rs drawn)

  -- by whichever function of that number, which is the callee
  abbrev Comes_back : TrackedFrame → PlainFunction → Type 0
  Comes_back t g =
      (U : Table) → Relies p.program tk.left.guards tk.U U → (handed : Stock) (r : ℤ) →
      Roomy p.program U (both p.program tk.left handed) → (heap : Heap) →
      ((a z : ℤ) → handed.cells a z ≤ cells_of heap a z) →
      (owns : OwnsEnsures p.program U handed g (args_are p part T f.store c)
      (callee_fixed p part T f.store c ts tk) r) → (x : Fill) →
      IsMetOr p.program U owns.values g.ensures.items handed owns.met.0 owns.met.1 x →
      NamesFit (ensures_scope g g.ensures.names) x.names →
      Tied p trees (both p.program tk.left handed) U fixed (receives c.x r (with_rest f b))
      (received_by p trees callee r (waiting_at t) x)

  abbrev Has_back : TrackedFrame → PlainFunction → Type 0
  Has_back t g =
      (U : Table) → Relies p.program tk.left.guards tk.U U → (handed : Stock) (r : ℤ) →
      Roomy p.program U (both p.program tk.left handed) →
      (owns : OwnsEnsures p.program U handed g (args_are p part T f.store c)
      (callee_fixed p part T f.store c ts tk) r) → (x : Fill) →
      IsMetOr p.program U owns.values g.ensures.items handed owns.met.0 owns.met.1 x →
      NamesFit (ensures_scope g g.ensures.names) x.names →
      items_drawn p.program U owns.values g.ensures.items handed owns.met.0 owns.met.1
      ≡ handed →
      (rs : List TrackedRegion) → Tells rs U →
      IsTold (StopsSo (HasJust p trees (both p.program tk.left handed)))
      (frame_walk (derivation p trees) false rs (received_by p trees callee r (waiting_at t) x) [])

  -- the frame waits
  pub call-waits :
      (t : TrackedFrame) →
      WaitsTied p trees tk.left tk.U fixed (with_rest f b) callee (waiting_at t)
  call-waits t = record {
    waited = record {
      fn = fn;
      ok = ok;
      all = λ U relies handed r g is_fn room owns.
          ((waits-here p program give take rests stable part T roomy fn fixed
          (values-length fn.fixed fixed ok.values) f r0 c h st n is_g l b tk ok later).back U relies
          handed r g is_fn room owns).stands;
    };
    seated = λ U r rs tells.
        seat-waits p trees program tk.left tk.U fn fixed (with_rest f b) ok at-once.fits
        at-once.room items e l.number q vs seat-first.0 seat-first.1 U r t rs tells;
    back = λ U relies handed r g is_fn room heap within owns x met fits.
        subst (Comes_back t) (some-same c.g g (sym is_g ∙ is_fn))
        (λ U relies handed r room heap within owns x met fits.
        back-tied U relies handed r room owns x met fits heap within t) U relies handed r room heap
        within owns x met fits;
    regains = λ U relies handed r g is_fn room owns x met fits drawn rs tells.
        subst (Has_back t) (some-same c.g g (sym is_g ∙ is_fn))
        (λ U relies handed r room owns x met fits drawn rs tells.
        regains-just U relies handed r room owns x met fits drawn rs tells t) U relies handed r room
        owns x met fits drawn rs tells;
  }
