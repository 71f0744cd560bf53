-- A function's body, from what its `requires` was met by when it was handed over: where that is met
-- again, the new frame is tied to its walk from the body's root.
use Rattle.std.proofs.Common.{◌≡◌, inl, inr, ℕ, ◌+◌, ◌≤◌, ℤ, pos, true, false, List, [], ◌∷◌, ◌++◌, length, map, replicate, arith, refl, sym, ap, ◌∙◌, subst, Option, Some}
use Rattle.std.specs.Prelude.{slice_get}
use Rattle.std.specs.List.{AllByRecursion, AllZip}
use Rattle.cap_lin.specs.Values.{Valuation, value}
use Rattle.cap_lin.specs.declared.row.Sort.TheVariants.{Int}
use Rattle.cap_prog.specs.Program.{Items, none, item, PlainProgram, PlainFunction}
use Rattle.cap_prog.specs.Scopes.{requires_scope}
use Rattle.cap_prog.specs.WellFormed.{IsWellFormed}
use Rattle.cap_goal_spec.specs.States.{PlainState, Home, PlainTask, to_give, goal}
use Rattle.cap_goal_spec.specs.Terms.{variables_from}
use Rattle.cap_goal_spec.specs.Environments.{zero_value}
use Rattle.cap_goal_spec.specs.Roots.{at_entry, home_of, root_env, root_state}
use Rattle.cap_goal_spec.specs.Choices.{PlainTree}
use Rattle.cap_machine.specs.Machine.{Frame, new_frame}
use Rattle.cap_machine_accounts.specs.Assertions.{NameValue, a_number, ValuesFit}
use Rattle.cap_account_resources.specs.Parts.{Table}
use Rattle.cap_account_resources.proofs.Lists.{map-join, all-both}
use Rattle.cap_account_resources.proofs.Interference.{Relies}
use Rattle.cap_account_resources.proofs.Stocks.{Stock, inside-same}
use Rattle.cap_account_resources.proofs.Tables.{FitsRoom, fits-relied}
use Rattle.cap_account_states.proofs.Alike.{Alike}
use Rattle.cap_account_states.proofs.Checked.{Checked}
use Rattle.cap_account_states.proofs.KnowsLater.{backed-at}
use Rattle.cap_account_states.proofs.Meets.{Usable, usable-old, Old}
use Rattle.cap_account_states.proofs.Naming.{Ready}
use Rattle.cap_account_states.proofs.Roots.{function-fits, Root, root_values, fixed-usable, root-ready, root-fixed, root-whole, variables-values, map-zero, variables-over, zeros-over}
use Rattle.cap_account_states.proofs.Scopes.{rep-length, length-join}
use Rattle.cap_account_states.proofs.Terms.{Over}
use Rattle.cap_account_assertions.proofs.Asserted.{Owns, OwnsRequires}
use Rattle.cap_account_steps.proofs.Entries.{take-all, entry_root, low-variable}
use Rattle.cap_account_steps.proofs.Frames.{Node, Sits, Roomy}
use Rattle.cap_account_steps.proofs.Points.{FrameOk}
use Rattle.cap_account_steps.proofs.Stores.{Store, running}
use Rattle.cap_owners_spec.specs.Traced.{valuation}
use Rattle.cap_owners_spec.specs.Track.{Place, TrackedRegion, GivenAssertion, TrackedFrame}
use Rattle.cap_owners_spec.specs.Walks.{Walk, no_items, Interpreting, walk}
use Rattle.cap_owners_spec.specs.Steps.{interpreted, frame_walk}
use Rattle.cap_owners_walks_laws.proofs.Values.More.{FitsSort}
use Rattle.cap_owners_walks_laws.proofs.Fills.Amounts.{items_drawn}
use Rattle.cap_owners_walks_laws.proofs.Fills.Drawn.{Tells}
use Rattle.cap_owners_walks_laws.proofs.Fills.Giving.{NamesFit}
use Rattle.cap_owners_laws.specs.Owned.{IsTold}
use Rattle.cap_owners_walks_laws.proofs.Parts.Held.{IsOf, own-backed}
use Rattle.cap_owners_walks_laws.proofs.Parts.Added.{of-at}
use Rattle.cap_owners_walks_laws.proofs.Walks.Leading.{stops-running}
use Rattle.cap_owners_walks_laws.proofs.Walks.Passing.{more}
use Rattle.cap_owners_runs_laws.proofs.Tracks.Tied.{StopsSo, derivation, IsAtNode, Tied, HasJust}
use Rattle.cap_owners_runs_laws.proofs.Tracks.Agreeing.{AgreeBy}
use Rattle.cap_owners_runs_laws.proofs.Tracks.Roots.{OwnsBare, IsRefilled, MetAgain, IsRoot, begun_at, IsThere, LedTo, LedWith, led-to, led-just}
use Rattle.cap_owners_runs_laws.proofs.Tracks.RootValues.{values-sorted, values-agree, bare_names, bare-whole, bare-are, bare-have}

-- where nothing is asked for, it is owned
pub owns-none :
    (p : PlainProgram) (U : Table) (q : Stock) (a : Valuation) (items : Items) →
    no_items items ≡ true → Owns p U q a items
owns-none p U q a none e = (q, inside-same p q)
owns-none p U q a (item i more) e = absurd (cc)

module _ (p : Checked) (trees : List (Option PlainTree)) where
  abbrev enter : Interpreting
  enter = interpreted (derivation p trees)

  -- ---- a node's state, by alike values

  -- where it has just so much, it does at them
  pub node-has :
      (part : Stock) (U : Table) (fn : PlainFunction) (fixed : List NameValue) (f : Frame)
      (tasks : Home → List PlainTask) (d : PlainTree) (n : Node p part U fn fixed f tasks d)
      (has : Stock) → IsOf p.program n.v n.state has → (w : Walk) →
      Alike (Old n.state) n.v (valuation w.values) →
      HasJust p trees has (record { goal = goal n.state (tasks n.home); tree = d }) w
  node-has part U fn fixed f tasks d n has just w alike =
      let s = n.state in
      let v = valuation w.values in
      record {
        pieces_fit = n.grounded.pieces_fit;
        backed =
            backed-at p.program s [] (Old s) n.v v has (usable-old [] s.sorts) alike n.grounded
            (own-backed p.program n.v s part has n.grounded.pieces_fit n.backed just);
        just = of-at p.program s [] (Old s) n.v v has (usable-old [] s.sorts) alike n.grounded just;
      }

  -- ---- a frame that is led to its statements

  module _ (part : Stock) (T : Table) (fn : PlainFunction) (fixed : List NameValue) (f : Frame)
      (ok : FrameOk p.program fn fixed f) (fits : AllZip FitsSort fn.fixed fixed)
      (t : TrackedFrame)
      (led : (U : Table) → Relies p.program part.guards T U →
      LedTo p trees U part fn fixed f (running f.rest) t) where
    abbrev sits : (U : Table) → Relies p.program part.guards T U → Sits p part U fn fixed f
    sits U r = record { tree = (led U r).tree; at_node = (led U r).at_node }

    stops-there :
        (U : Table) (r : Relies p.program part.guards T U) (rs : List TrackedRegion) →
        IsThere p trees U part fn fixed f (running f.rest) (led U r).tree (led U r).at_node t rs []
        →
        IsTold (StopsSo (IsAtNode p trees rs part U fn fixed f (sits U r)))
        (frame_walk (derivation p trees) false rs t [])
    stops-there U r rs x =
        let n = (led U r).at_node in
        let w = record x.w { events = [] } in
        let stop = stops-running p enter (led U r).tree n.state n.home f.rest [] x.w in
        let goes = x.there
        ∙ (λ i. walk enter p.program false (led U r).tree
        (goal n.state (running f.rest n.home)) (record x.w { events = x.tidy.events i ++ [] }))
        ∙ stop in
        subst (IsTold (StopsSo (IsAtNode p trees rs part U fn fixed f (sits U r)))) (sym goes)
        (record {
          tree = refl;
          goal_is = refl;
          alike = x.alike;
          tidy = record {
            sorted = x.tidy.sorted;
            regions = x.tidy.regions;
            next = x.tidy.next;
            events = refl;
          };
        })

    -- it is tied there, where none of its own steps came since
    pub led-tied : t.since ≡ [] → Tied p trees part T fixed f t
    led-tied empty = record {
      stood = record { fn = fn; ok = ok; all = λ U r. sits U r };
      fits = fits;
      walks = λ U r rs tells.
          let P = StopsSo (IsAtNode p trees rs part U fn fixed f (sits U r)) in
          subst (λ es. IsTold P (frame_walk (derivation p trees) false rs t es)) (sym empty)
          (elim ((led U r).walks rs tells []) [
            | inl wide ↦ subst (IsTold P) (sym wide) tt
            | inr x ↦ stops-there U r rs x
          ]);
    }

  -- where the state has just so much, its walk stops there
  pub led-has :
      (part : Stock) (U : Table) (fn : PlainFunction) (fixed : List NameValue) (f : Frame)
      (t : TrackedFrame) (has : Stock) →
      LedWith p trees U part fn fixed f (running f.rest) t has → (rs : List TrackedRegion) →
      Tells rs U →
      IsTold (StopsSo (HasJust p trees has)) (frame_walk (derivation p trees) false rs t [])
  led-has part U fn fixed f t has x rs tells =
      elim (x.led.walks rs tells []) [
        | inl wide ↦ subst (IsTold (StopsSo (HasJust p trees has))) (sym wide) tt
        | inr y ↦
            let n = x.led.at_node in
            let d = x.led.tree in
            let goes = y.there
            ∙ (λ i. walk enter p.program false d (goal n.state (running f.rest n.home))
            (record y.w { events = y.tidy.events i ++ [] }))
            ∙ stops-running p enter d n.state n.home f.rest [] y.w in
            subst (IsTold (StopsSo (HasJust p trees has))) (sym goes)
            (node-has part U fn fixed f (running f.rest) d n has x.just
            (record y.w { events = [] }) y.alike)
      ]

  -- ---- bodies

  module _ (wf : IsWellFormed p.program) (n : ℕ) (g : PlainFunction)
      (is_g : slice_get p.program.functions n ≡ Some g) (args : List ℤ) (fixed : List NameValue)
      (destination : Option ℕ) (count : length args ≡ g.params) (fit : ValuesFit g.fixed fixed)
      (fits : AllZip FitsSort g.fixed fixed) (part : Stock) where
    -- the state of the body's root, and the values there
    abbrev pub entered : PlainState
    entered = root_state at_entry g n (root_env at_entry g n 0 ∷ [])

    abbrev pub entry_values : List NameValue
    entry_values = map a_number args ++ fixed

    abbrev h : Home
    h = home_of at_entry g n

    abbrev f : Frame
    f = new_frame n g args destination

    entered-over : AllByRecursion (Over (Usable [] entered.sorts Int)) entered.store
    entered-over =
        all-both (Over (Usable [] entered.sorts Int)) (variables_from 0 g.params)
        (replicate g.locals zero_value)
        (variables-over (Usable [] entered.sorts Int) 0 g.params
        (λ i x y. low-variable g 0 i (omega (arith, y))))
        (zeros-over (Usable [] entered.sorts Int) g.locals)

    entered-store :
        (v : Valuation) → length args ≤ g.params + 0 →
        map (value v.whole) (variables_from 0 (length args)) ≡ args →
        map (value v.whole) entered.store ≡ args ++ replicate g.locals (pos 0)
    entered-store v len e =
        map-join (value v.whole) (variables_from 0 g.params) (replicate g.locals zero_value)
        ∙ ap (λ zs. zs ++ map (value v.whole) (replicate g.locals zero_value))
        (ap (λ k. map (value v.whole) (variables_from 0 k)) (sym count) ∙ e)
        ∙ ap (λ zs. args ++ zs) (map-zero v g.locals)

    module _ (U : Table) (me : OwnsRequires p.program U part g args fixed) where
      abbrev top : Root
      top = entry_root g n me.values

      store-there : Store (root_values top) entered h g fixed f
      store-there =
          let len : length args ≤ g.params + 0 = omega (arith, count) in
          record {
            home = refl;
            store =
                entered-store (root_values top) len
                (variables-values (root_values top) 0 args (root-whole top args len me.args_are));
            fixed_are = root-fixed top fixed fit me.fixed_are;
            fixed_known = fixed-usable top;
          }

      ready-there : Ready (requires_scope g) 0 me.values (root_values top) entered
      ready-there = root-ready top entered refl refl refl [] refl entered-over

      agrees-there :
          (names : List NameValue) → me.values ≡ valuation names →
          NamesFit (requires_scope g) names →
          AgreeBy entered.sorts (root_values top) (valuation entry_values)
      agrees-there names named have =
          let all : length args ≡ g.params + 0 = omega (arith, count) in
          values-agree top refl names named args all fixed fit fits me.args_are
          me.fixed_are

    -- where nothing is asked for, any names do
    bare-own :
        (U : Table) → no_items g.requires ≡ true →
        OwnsBare (requires_scope g) (OwnsRequires p.program U part g args fixed) (λ m. m.values)
    bare-own U e =
        let top = entry_root g n (valuation []) in
        let all : length args ≡ g.params + 0 = omega (arith, count) in
        let names = bare_names top args all fixed fit fits in
        record {
          own = record {
            values = valuation names;
            args_are = bare-whole top args all fixed fit fits;
            fixed_are = bare-are top args all fixed fit fits;
            met = owns-none p.program U part (valuation names) g.requires e;
          };
          names = names;
          named = refl;
          have = bare-have top args all fixed fit fits;
        }

    frame-ok : FrameOk p.program g fixed f
    frame-ok = record {
      is_fn = is_g;
      size =
          length-join args (replicate g.locals (pos 0))
          ∙ (let c = rep-length g.locals (pos 0) in omega (arith, c, count));
      args = take-all args (replicate g.locals (pos 0)) g.params count;
      values = fit;
      point = record {
        fits = (function-fits p.program wf n g is_g).body.statements;
        loops = λ w k. k;
      };
    }

    -- by each table that others can reach, the `requires` is met again by what it comes to
    abbrev pub RequiresAgain : Table → GivenAssertion → Type 0
    RequiresAgain U y =
        MetAgain p trees U part (requires_scope g) g.requires
        (OwnsRequires p.program U part g args fixed) (λ m. m.values) (λ m. m.met) y

    pub body-tied :
        (T : Table) → Roomy p.program T part → (q : Place) →
        IsRoot p trees q entered (to_give g.requires 0 0 ∷ running g.body (home_of at_entry g n)) →
        (y : GivenAssertion) → ((U : Table) → Relies p.program part.guards T U → RequiresAgain U y)
        →
        (t : TrackedFrame) → t.since ≡ [] →
        Tied p trees part T fixed (new_frame n g args destination)
        (begun_at p trees t q entry_values y)
    body-tied T roomy q root y again t empty =
        led-tied part T g fixed f frame-ok fits (begun_at p trees t q entry_values y)
        (λ U r. led-to p trees U part (fits-relied p.program T U part roomy.full r roomy.room)
        (requires_scope g) g.requires (function-fits p.program wf n g is_g).requires.items
        (running g.body) h (λ s. refl) entered
        (record { facts = refl; guards = refl; cells = refl; rows = refl; opened = refl }) q root g fixed f
        fit entered-over t entry_values y
        (OwnsRequires p.program U part g args fixed) (λ m. m.values) (λ m. m.met)
        (λ m. root_values (entry_root g n m.values)) (λ m. ready-there U m) (λ m. store-there U m)
        (let all : length args ≡ g.params + 0 = omega (arith, count) in
        values-sorted (g.params + 0) args g.fixed fixed all fits)
        (λ m names named have. agrees-there U m names named have) (λ e. bare-own U e) (again U r))
        empty

    -- by the table by which it has its `requires`, met as it was, and all of it is drawn, its state
    -- has just that
    pub body-has :
        (U : Table) → FitsRoom p.program U part → (q : Place) →
        IsRoot p trees q entered (to_give g.requires 0 0 ∷ running g.body (home_of at_entry g n)) →
        (y : GivenAssertion) (own : OwnsRequires p.program U part g args fixed) →
        IsRefilled p trees U (requires_scope g) g.requires own.values part own.met.0 own.met.1 y →
        items_drawn p.program U own.values g.requires part own.met.0 own.met.1 ≡ part →
        (t : TrackedFrame) (rs : List TrackedRegion) → Tells rs U →
        IsTold (StopsSo (HasJust p trees part))
        (frame_walk (derivation p trees) false rs (begun_at p trees t q entry_values y) [])
    body-has U room q root y own met drawn t rs tells =
        led-has part U g fixed f (begun_at p trees t q entry_values y) part
        (subst (LedWith p trees U part g fixed f (running g.body) (begun_at p trees t q entry_values y))
        drawn
        (led-just p trees U part room (requires_scope g) g.requires
        (function-fits p.program wf n g is_g).requires.items (running g.body) h (λ s. refl) entered
        (record { facts = refl; guards = refl; cells = refl; rows = refl; opened = refl }) q root g
        fixed f fit entered-over t entry_values y (OwnsRequires p.program U part g args fixed)
        (λ m. m.values) (λ m. m.met) (λ m. root_values (entry_root g n m.values))
        (λ m. ready-there U m) (λ m. store-there U m)
        (let all : length args ≡ g.params + 0 = omega (arith, count) in
        values-sorted (g.params + 0) args g.fixed fixed all fits)
        (λ m names named have. agrees-there U m names named have) (λ e. bare-own U e) own met)) rs
        tells
