-- A turn of a loop, from what its invariant was met by at the loop's head: where that is met again,
-- the frame is tied to its walk from the loop's root, over the comparison.
use Rattle.std.proofs.Common.{◌≡◌, inl, inr, ◌+◌, ◌≤◌, Bool, true, false, if◌then◌else◌, List, [], ◌∷◌, ◌++◌, length, map, arith, refl, sym, ap, ◌∙◌, subst, Option}
use Rattle.std.specs.List.{AllByRecursion, AllZip}
use Rattle.cap_lin.specs.Values.{Valuation, value}
use Rattle.cap_lin.specs.declared.row.Sort.TheVariants.{Int}
use Rattle.cap_prog.specs.declared.assertion.Comp.{Comp}
use Rattle.cap_prog.specs.Program.{PlainAssertion, Label, loop, Block, first, append, PlainFunction}
use Rattle.cap_prog.specs.Scopes.{invariant_scope}
use Rattle.cap_prog.specs.WellFormed.{IsWellFormed}
use Rattle.cap_goal_spec.specs.States.{PlainState, Home, PlainTask, to_give, to_turn, goal}
use Rattle.cap_goal_spec.specs.Terms.{variables_from}
use Rattle.cap_goal_spec.specs.Roots.{at_loop, home_of, root_env, root_state}
use Rattle.cap_goal_spec.specs.Choices.{PlainTree, node, by_absurd, by_turn}
use Rattle.cap_machine.specs.declared.event.Event.TheVariants.{Branch}
use Rattle.cap_machine.specs.Machine.{Frame, holds, with_rest}
use Rattle.cap_machine_accounts.specs.Assertions.{NameValue, a_number}
use Rattle.cap_account_resources.specs.Parts.{Table}
use Rattle.cap_account_resources.proofs.Lists.{all-both}
use Rattle.cap_account_resources.proofs.Interference.{Relies}
use Rattle.cap_account_resources.proofs.Stocks.{Stock}
use Rattle.cap_account_resources.proofs.Tables.{FitsRoom, fits-relied}
use Rattle.cap_account_states.proofs.Alike.{Alike}
use Rattle.cap_account_states.proofs.Attempts.{row_added, store_row}
use Rattle.cap_account_states.proofs.Checked.{Checked}
use Rattle.cap_account_states.proofs.Meets.{Usable, Old}
use Rattle.cap_account_states.proofs.Naming.{Ready}
use Rattle.cap_account_states.proofs.Roots.{Root, root_values, fixed-usable, root-ready, root-fixed, root-whole, variables-values, variables-join, variables-over}
use Rattle.cap_account_states.proofs.Terms.{Over}
use Rattle.cap_account_assertions.proofs.Asserted.{OwnsInvariant}
use Rattle.cap_account_steps.proofs.Entries.{loop_root, low-variable}
use Rattle.cap_account_steps.proofs.Frames.{Node, Roomy}
use Rattle.cap_account_steps.proofs.Local.{given-up}
use Rattle.cap_account_steps.proofs.Points.{Point, FrameOk, point-next, point-again, point-act}
use Rattle.cap_account_steps.proofs.Stores.{Store}
use Rattle.cap_owners_spec.specs.Traced.{valuation}
use Rattle.cap_owners_spec.specs.Track.{Place, TrackedRegion, GivenAssertion, TrackedFrame}
use Rattle.cap_owners_spec.specs.Steps.{interpreted, frame_walk}
use Rattle.cap_owners_spec.specs.Walks.{Walk, no_items, walk}
use Rattle.cap_owners_walks_laws.proofs.Values.More.{FitsSort}
use Rattle.cap_owners_walks_laws.proofs.Fills.Amounts.{items_drawn}
use Rattle.cap_owners_walks_laws.proofs.Fills.Drawn.{Tells}
use Rattle.cap_owners_walks_laws.proofs.Fills.Giving.{NamesFit}
use Rattle.cap_owners_walks_laws.proofs.Walks.Passing.{more}
use Rattle.cap_owners_walks_laws.proofs.Parts.Held.{IsOf}
use Rattle.cap_owners_walks_laws.proofs.Parts.Added.{of-same}
use Rattle.cap_owners_laws.specs.Owned.{IsTold}
use Rattle.cap_owners_runs_laws.proofs.Tracks.Tied.{StopsSo, derivation, IsAtNode, Tied, HasJust}
use Rattle.cap_owners_runs_laws.proofs.Tracks.Agreeing.{AgreeBy}
use Rattle.cap_owners_runs_laws.proofs.Tracks.Roots.{OwnsBare, IsRefilled, MetAgain, IsRoot, begun_at, LedTo, LedWith, led-to, led-just}
use Rattle.cap_owners_runs_laws.proofs.Tracks.RootValues.{values-sorted, values-agree, bare_names, bare-whole, bare-are, bare-have}
use Rattle.cap_owners_runs_laws.proofs.Tracks.Bodies.{owns-none, node-has}
use Rattle.cap_owners_runs_laws.proofs.Steps.Sides.{side_of, turn-leads}
use Rattle.cap_owners_runs_laws.proofs.Steps.Onward.{LedOn, turn-on}

module _ (p : Checked) (trees : List (Option PlainTree)) (wf : IsWellFormed p.program)
    (fn : PlainFunction) (fixed : List NameValue) (f : Frame) (l : Label) (c : Comp)
    (inv : PlainAssertion) (body b : Block)
    (ok : FrameOk p.program fn fixed (with_rest f (first l (loop c inv body) b)))
    (fits : AllZip FitsSort fn.fixed fixed) (part : Stock) where
  -- the state of the loop's root, and the values there
  abbrev pub turned : PlainState
  turned = root_state at_loop fn f.function
      (root_env at_loop fn f.function (length inv.names) ∷ [])

  abbrev pub loop_values : List NameValue
  loop_values = map a_number f.store ++ fixed

  -- the frame before the comparison, and behind it
  abbrev pub at_turn : Home → List PlainTask
  at_turn h = to_turn h (first l (loop c inv body) b) ∷ []

  abbrev pub behind_turn : Frame
  behind_turn =
      with_rest f (if holds f.store c then append body (first l (loop c inv body) b) else b)

  abbrev h : Home
  h = home_of at_loop fn f.function

  turned-over : AllByRecursion (Over (Usable [] turned.sorts Int)) turned.store
  turned-over =
      all-both (Over (Usable [] turned.sorts Int)) (variables_from 0 fn.params)
      (variables_from fn.params fn.locals)
      (variables-over (Usable [] turned.sorts Int) 0 fn.params
      (λ i x y. low-variable fn fn.locals i (omega (arith, y))))
      (variables-over (Usable [] turned.sorts Int) fn.params fn.locals
      (λ i x y. low-variable fn fn.locals i y))

  turned-store :
      (v : Valuation) → map (value v.whole) (variables_from 0 (length f.store)) ≡ f.store →
      map (value v.whole) turned.store ≡ f.store
  turned-store v e =
      let z : fn.params ≡ 0 + fn.params = omega arith in
      ap (map (value v.whole))
      (ap (λ k. variables_from 0 fn.params ++ variables_from k fn.locals) z
      ∙ variables-join 0 fn.params fn.locals
      ∙ ap (variables_from 0) (sym ok.size))
      ∙ e

  module _ (U : Table) (me : OwnsInvariant p.program U part fn f.store fixed inv) where
    abbrev top : Root
    top = loop_root fn f.function inv.names me.values

    store-there : Store (root_values top) turned h fn fixed f
    store-there =
        let size = ok.size in
        let len : length f.store ≤ fn.params + fn.locals = omega (arith, size) in
        record {
          home = refl;
          store =
              turned-store (root_values top)
              (variables-values (root_values top) 0 f.store
              (root-whole top f.store len me.store_is));
          fixed_are = root-fixed top fixed ok.values me.fixed_are;
          fixed_known = fixed-usable top;
        }

    ready-there : Ready (invariant_scope fn inv.names) 0 me.values (root_values top) turned
    ready-there = root-ready top turned refl refl refl [] refl turned-over

    agrees-there :
        (names : List NameValue) → me.values ≡ valuation names →
        NamesFit (invariant_scope fn inv.names) names →
        AgreeBy turned.sorts (root_values top) (valuation loop_values)
    agrees-there names named have =
        values-agree top refl names named f.store ok.size fixed ok.values fits me.store_is
        me.fixed_are

  -- where nothing is asked for, any names do
  bare-own :
      (U : Table) → no_items inv.items ≡ true →
      OwnsBare (invariant_scope fn inv.names)
      (OwnsInvariant p.program U part fn f.store fixed inv) (λ m. m.values)
  bare-own U e =
      let top = loop_root fn f.function inv.names (valuation []) in
      let names = bare_names top f.store ok.size fixed ok.values fits in
      record {
        own = record {
          values = valuation names;
          store_is = bare-whole top f.store ok.size fixed ok.values fits;
          fixed_are = bare-are top f.store ok.size fixed ok.values fits;
          met = owns-none p.program U part (valuation names) inv.items e;
        };
        names = names;
        named = refl;
        have = bare-have top f.store ok.size fixed ok.values fits;
      }

  frame-ok : FrameOk p.program fn fixed behind_turn
  frame-ok = record {
    is_fn = ok.is_fn;
    size = ok.size;
    args = ok.args;
    values = ok.values;
    point = on (holds f.store c);
  }
    where
      on :
          (t : Bool) →
          Point p.program fn (if t then append body (first l (loop c inv body) b) else b)
      on true = point-again p.program fn l c inv body b ok.point
      on false = point-next p.program fn l (loop c inv body) b ok.point

  -- by each table that others can reach, the invariant is met again by what it comes to
  abbrev pub InvariantAgain : Table → GivenAssertion → Type 0
  InvariantAgain U y =
      MetAgain p trees U part (invariant_scope fn inv.names) inv.items
      (OwnsInvariant p.program U part fn f.store fixed inv) (λ m. m.values) (λ m. m.met) y

  -- over the comparison a state has what it had
  turn-keeps :
      (U : Table) (d : PlainTree)
      (n : Node p part U fn fixed f (λ h. to_turn h (first l (loop c inv body) b) ∷ []) d)
      (has : Stock) → IsOf p.program n.v n.state has → (w : Walk) →
      Alike (Old n.state) n.v (valuation w.values) → w.events ≡ [] →
      IsTold (StopsSo (HasJust p trees has))
      (walk (interpreted (derivation p trees)) p.program false d
      (goal n.state (to_turn n.home (first l (loop c inv body) b) ∷ []))
      (more w (Branch (holds f.store c) ∷ [])))
  turn-keeps U (node (by_absurd u) ks) n has just w alike none =
      given-up p part U fn fixed f (λ h. to_turn h (first l (loop c inv body) b)) u ks n
  turn-keeps U (node by_turn ks) n has just w alike none =
      let taken = holds f.store c in
      let enter = interpreted (derivation p trees) in
      let Q = StopsSo (HasJust p trees has) in
      let g = goal n.state (at_turn n.home) in
      let lead = turn-leads p ks n.state n.home l c inv body b taken n.valid in
      let k = node-has p trees part U fn fixed f at_turn (node by_turn ks) n has just
      (record w { events = [] }) alike in
      let later = row_added n.state (store_row n.state (side_of c.op taken) c) in
      subst (IsTold Q)
      (sym ((λ i. walk enter p.program false (node by_turn ks) g
      (record w { events = none i ++ Branch taken ∷ [] }))
      ∙ lead.walks enter w))
      (record {
        pieces_fit = k.pieces_fit;
        backed = record { cells = k.backed.cells; guards = k.backed.guards };
        just = of-same p.program n.state later (valuation w.values) has refl refl k.just;
      })
  turn-keeps U d n has just w alike none = absurd (p.step n.valid).1

  -- by the table by which it has its invariant, met as it was, and all of it is drawn, its state
  -- behind the comparison has just that
  pub turn-has :
      (U : Table) → FitsRoom p.program U part → (q : Place) →
      IsRoot p trees q turned
      (to_give inv.items 0 0
      ∷ to_turn (home_of at_loop fn f.function) (first l (loop c inv body) b) ∷ []) →
      (y : GivenAssertion) (own : OwnsInvariant p.program U part fn f.store fixed inv) →
      IsRefilled p trees U (invariant_scope fn inv.names) inv.items own.values part own.met.0
      own.met.1 y →
      items_drawn p.program U own.values inv.items part own.met.0 own.met.1 ≡ part →
      (t : TrackedFrame) (rs : List TrackedRegion) → Tells rs U →
      IsTold (StopsSo (HasJust p trees part))
      (frame_walk (derivation p trees) false rs (begun_at p trees t q loop_values y)
      (Branch (holds f.store c) ∷ []))
  turn-has U room q root y own met drawn t rs tells =
      let frame = begun_at p trees t q loop_values y in
      let Q = StopsSo (HasJust p trees part) in
      let x = subst (LedWith p trees U part fn fixed f at_turn frame) drawn
      (led-just p trees U part room (invariant_scope fn inv.names) inv.items
      (point-act p.program fn l (loop c inv body) b ok.point).1.items.items at_turn h (λ s. refl)
      turned (record { facts = refl; guards = refl; cells = refl; rows = refl; opened = refl }) q
      root fn fixed f ok.values turned-over t loop_values y
      (OwnsInvariant p.program U part fn f.store fixed inv) (λ m. m.values) (λ m. m.met)
      (λ m. root_values (loop_root fn f.function inv.names m.values)) (λ m. ready-there U m)
      (λ m. store-there U m)
      (values-sorted (fn.params + fn.locals) f.store fn.fixed fixed ok.size fits)
      (λ m names named have. agrees-there U m names named have) (λ e. bare-own U e) own met) in
      elim (x.led.walks rs tells (Branch (holds f.store c) ∷ [])) [
        | inl wide ↦ subst (IsTold Q) (sym wide) tt
        | inr z ↦
            subst (IsTold Q) (sym z.there)
            (turn-keeps U x.led.tree x.led.at_node part x.just z.w z.alike z.tidy.events)
      ]

  module _ (T : Table) (roomy : Roomy p.program T part) (q : Place)
      (root : IsRoot p trees q turned
      (to_give inv.items 0 0 ∷ at_turn (home_of at_loop fn f.function))) (y : GivenAssertion)
      (again : (U : Table) → Relies p.program part.guards T U → InvariantAgain U y)
      (t : TrackedFrame) where
    abbrev frame : TrackedFrame
    frame = begun_at p trees t q loop_values y

    led :
        (U : Table) → Relies p.program part.guards T U →
        LedTo p trees U part fn fixed f at_turn (begun_at p trees t q loop_values y)
    led U r =
        led-to p trees U part (fits-relied p.program T U part roomy.full r roomy.room)
        (invariant_scope fn inv.names) inv.items
        (point-act p.program fn l (loop c inv body) b ok.point).1.items.items at_turn h
        (λ s. refl) turned
        (record { facts = refl; guards = refl; cells = refl; rows = refl; opened = refl }) q root
        fn fixed f
        ok.values turned-over t loop_values y
        (OwnsInvariant p.program U part fn f.store fixed inv) (λ m. m.values) (λ m. m.met)
        (λ m. root_values (loop_root fn f.function inv.names m.values)) (λ m. ready-there U m)
        (λ m. store-there U m)
        (values-sorted (fn.params + fn.locals) f.store fn.fixed fixed ok.size fits)
        (λ m names named have. agrees-there U m names named have) (λ e. bare-own U e)
        (again U r)

    -- over the comparison
    led-behind :
        (U : Table) (r : Relies p.program part.guards T U) →
        LedOn p trees U fn fixed (Branch (holds f.store c)) part part f behind_turn at_turn
        (led U r).tree (led U r).at_node
    led-behind U r =
        turn-on p trees U fn fixed part f l b c
        (point-act p.program fn l (loop c inv body) b ok.point).0 (holds f.store c) refl inv body
        (led U r).tree (led U r).at_node

    pub turn-tied :
        t.since ≡ Branch (holds f.store c) ∷ [] →
        Tied p trees part T fixed behind_turn (begun_at p trees t q loop_values y)
    turn-tied one = record {
      stood = record { fn = fn; ok = frame-ok; all = λ U r. (led-behind U r).sits };
      fits = fits;
      walks = λ U r rs tells.
          let n = (led U r).at_node in
          let P = StopsSo (IsAtNode p trees rs part U fn fixed behind_turn (led-behind U r).sits) in
          let place : Place = record { goal = goal n.state (at_turn n.home); tree = (led U r).tree }
          in
          subst (λ es. IsTold P (frame_walk (derivation p trees) false rs frame es)) (sym one)
          (elim ((led U r).walks rs tells (Branch (holds f.store c) ∷ [])) [
            | inl wide ↦ subst (IsTold P) (sym wide) tt
            | inr x ↦
                subst (IsTold P) (sym x.there)
                ((led-behind U r).walks rs place x.w refl refl x.alike x.tidy)
          ]);
    }
