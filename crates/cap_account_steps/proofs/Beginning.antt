-- A function's body and a loop's turn, from what they are given.
use Rattle.cap_account_resources.proofs.Tables.{fits-composes, FitsRoom, fits-relied}
use Rattle.std.proofs.Common.{◌≡◌, ℕ, ◌+◌, ◌≤◌, ℤ, pos, List, [], ◌∷◌, ◌++◌, length, map, replicate, arith, refl, sym, ap, ◌∙◌, subst, Option, Some, Bool, true, false}
use Rattle.std.specs.Prelude.{slice_get, if◌then◌else◌}
use Rattle.std.specs.List.{AllByRecursion}
use Rattle.cap_lin.specs.Values.{Valuation, value}
use Rattle.cap_lin.specs.declared.row.Sort.TheVariants.{Int}
use Rattle.cap_prog.specs.declared.assertion.Comp.{Comp}
use Rattle.cap_prog.specs.Program.{PlainAssertion, Items, Label, loop, Block, first, append, PlainFunction}
use Rattle.cap_prog.specs.Scopes.{Scope, requires_scope, invariant_scope}
use Rattle.cap_prog.specs.WellFormed.{IsWellFormed}
use Rattle.cap_goal_spec.specs.States.{PlainState, Home, PlainTask, to_give, to_run, to_turn}
use Rattle.cap_goal_spec.specs.Terms.{variables_from}
use Rattle.cap_goal_spec.specs.Environments.{zero_value}
use Rattle.cap_goal_spec.specs.Roots.{at_entry, at_loop, home_of, root_env, root_state}
use Rattle.cap_goal_spec.specs.Choices.{PlainTree, PlainTrees}
use Rattle.cap_machine.specs.Machine.{Frame, new_frame, holds, with_rest}
use Rattle.cap_machine_accounts.specs.Assertions.{NameValue, ValuesFit}
use Rattle.cap_account_resources.specs.Parts.{Table}
use Rattle.cap_account_resources.proofs.Lists.{map-join, all-both}
use Rattle.cap_account_resources.proofs.Covering.{covered-none}
use Rattle.cap_account_resources.proofs.Room.{room}
use Rattle.cap_account_resources.proofs.Stocks.{Stock, no_stock, both, Composes, stock-laws}
use Rattle.cap_account_resources.proofs.Interference.{Relies}
use Rattle.cap_account_states.specs.Nodes.{Open}
use Rattle.cap_account_states.proofs.Terms.{Over}
use Rattle.cap_account_states.proofs.Meets.{Usable, Old}
use Rattle.cap_account_states.proofs.Alike.{agree-alike}
use Rattle.cap_account_states.proofs.Items.{AreFit}
use Rattle.cap_account_states.proofs.Checked.{Checked, one-child}
use Rattle.cap_account_states.proofs.Filled.{Filled, filled_at}
use Rattle.cap_account_states.proofs.Naming.{Ready}
use Rattle.cap_account_states.proofs.Values.{normal}
use Rattle.cap_account_states.proofs.Scopes.{rep-length, length-join}
use Rattle.cap_account_states.proofs.Roots.{values-length, function-fits, renamed, Root, fixed-usable, root-ready, root-fixed, root-whole, variables-values, map-zero, variables-join, variables-over, zeros-over}
use Rattle.cap_account_states.proofs.Backed.{Backed}
use Rattle.cap_account_assertions.proofs.Asserted.{Owns, OwnsRequires, OwnsInvariant}
use Rattle.cap_account_assertions.proofs.Filling.{fill_items}
use Rattle.cap_account_assertions.proofs.Laws.{StateAt, Given, GivenLaw, Reached}
use Rattle.cap_account_assertions.proofs.Passages.{EndsAt}
use Rattle.cap_account_steps.proofs.Points.{Point, FrameOk, loop_point, point-next, point-again, point-loop, point-act}
use Rattle.cap_account_steps.proofs.Stores.{Store, store-alike}
use Rattle.cap_account_steps.proofs.Entries.{take-all, entry_root, loop_root, low-variable}
use Rattle.cap_account_steps.proofs.Bundles.{UnitRoots}
use Rattle.cap_account_steps.proofs.Regained.{Regained, given_requires, given_invariant, Stable}
use Rattle.cap_account_steps.proofs.Frames.{Node, Sits, StandsAgain, Roomy}
use Rattle.cap_account_steps.proofs.Statements.{BodyLaw, TurnLaw}
use Rattle.cap_account_steps.proofs.Local.{turn-at}

module _ (p : Checked) (program : IsWellFormed p.program) (give : GivenLaw p)
    (stable : Stable p.program) (roots : UnitRoots p) where
  -- a state without facts, pieces and cells
  record Bare (s : PlainState) : Type 0 where
    facts : s.facts ≡ []
    guards : s.guards ≡ []
    cells : s.cells ≡ []
    opened : s.opened ≡ []

  bare-at :
      (T : Table) (sc : Scope) (a v : Valuation) (s : PlainState) → Bare s → Ready sc 0 a v s →
      StateAt p.program [] T sc 0 v s
  bare-at T sc a v s b r = record {
    grounded = record {
      meets = r.meets;
      pieces_over = rw b.guards tt;
      pieces_fit = rw b.guards tt;
    };
    facts = record {
      holds = rw b.facts tt;
      over = rw b.facts tt;
      loose = rw b.facts tt;
      differ = rw b.facts tt;
    };
    opened = rw b.opened tt;
    there = r.there;
    placed = r.placed;
  }

  nothing-backed : (v : Valuation) (s : PlainState) → Bare s → Backed p.program v s no_stock
  nothing-backed v s b = record {
    cells = λ a z. rw b.cells (omega arith);
    guards = λ n. rw b.guards (covered-none p.program v n (no_stock.guards n));
  }

  -- such a state is given all that the part owns
  given-all :
      (T : Table) (sc : Scope) (a v : Valuation) (s : PlainState) (items : Items) (part : Stock)
      (number : ℕ) (ts : List PlainTask) (trees : PlainTrees) → Bare s → Ready sc 0 a v s →
      FitsRoom p.program T part → AreFit p.program sc items →
      (met : Owns p.program T part a items) → Open p.N trees s (to_give items 0 number ∷ ts) →
      Given p T 0 v part s ts
      (fill_items p.program T a items part met.0 met.1 (filled_at 0 v s))
  given-all T sc a v s items part number ts trees b r room fits met go =
      let alone : both p.program no_stock part ≡ part = (stock-laws p.program).zero_left part in
      subst
      (λ q. Given p T 0 v q s ts
      (fill_items p.program T a items part met.0 met.1 (filled_at 0 v s))) alone
      (give T sc 0 number a no_stock part met.0 items ts trees v s go (bare-at T sc a v s b r)
      (rw b.facts tt) r.means fits met.1 (nothing-backed v s b)
      (subst Composes (sym alone) (fits-composes p.program T part room)))

  -- and then the frame whose store it has sits there
  abbrev given-sits :
      (T : Table) (v : Valuation) (s : PlainState) (part : Stock) (h : Home) (fn : PlainFunction)
      (fixed : List NameValue) (f : Frame) (tasks : Home → List PlainTask) →
      (goal : Filled) → s.opened ≡ [] → (gv : Given p T 0 v part s (tasks h) goal) → Store v s h fn fixed f →
      length fixed ≡ length fn.fixed → AllByRecursion (Over (Usable [] s.sorts Int)) s.store →
      (d : PlainTree) → p.N d gv.after (tasks h) → Node p part T fn fixed f tasks d
  given-sits T v s part h fn fixed f tasks goal none gv st size over d valid = record {
    state = gv.after;
    v = gv.w;
    home = h;
    valid = valid;
    none_open = gv.goes_on.opened ∙ none;
    grounded = gv.grounded;
    facts = gv.facts;
    firm = gv.firm;
    backed = gv.backed;
    store = store-alike v gv.w s gv.after h fn fixed f over
        (agree-alike (Old s) v gv.w gv.agree) gv.goes_on.sorts gv.goes_on.store size st;
  }

  -- ---- bodies

  module _ (n : ℕ) (g : PlainFunction) (is_g : slice_get p.program.functions n ≡ Some g)
      (args : List ℤ) (fixed : List NameValue) (destination : Option ℕ)
      (count : length args ≡ g.params) (fit : ValuesFit g.fixed fixed) (part : Stock) where
    abbrev entered : PlainState
    entered = root_state at_entry g n (root_env at_entry g n 0 ∷ [])

    entered-over : AllByRecursion (Over (Usable [] entered.sorts Int)) entered.store
    entered-over =
        all-both (Over (Usable [] entered.sorts Int)) (variables_from 0 g.params)
        (replicate g.locals zero_value)
        (variables-over (Usable [] entered.sorts Int) 0 g.params
        (λ i x y. low-variable g 0 i (omega (arith, y))))
        (zeros-over (Usable [] entered.sorts Int) g.locals)

    entered-store :
        (v : Valuation) → (len : length args ≤ g.params + 0) →
        map (value v.whole) (variables_from 0 (length args)) ≡ args →
        map (value v.whole) entered.store ≡ args ++ replicate g.locals (pos 0)
    entered-store v len e =
        map-join (value v.whole) (variables_from 0 g.params) (replicate g.locals zero_value)
        ∙ ap (λ zs. zs ++ map (value v.whole) (replicate g.locals zero_value))
        (ap (λ k. map (value v.whole) (variables_from 0 k)) (sym count) ∙ e)
        ∙ ap (λ zs. args ++ zs) (map-zero v g.locals)

    body-sits :
        (U : Table) → FitsRoom p.program U part →
        (me : OwnsRequires p.program U part g args fixed) →
        (s : Sits p part U g fixed (new_frame n g args destination))
        × (s.at_node.v ≡ (given_requires p.program U part n g args fixed me).values)
    body-sits U room me =
        let top : Root = entry_root g n me.values in
        let v = renamed (g.params + 0) g.locals (normal (requires_scope g) me.values) in
        let ready = root-ready top entered refl refl refl [] refl entered-over in
        let trees = roots.bodies n g is_g in
        let h = home_of at_entry g n in
        let tasks : Home → List PlainTask = λ h. to_run h g.body ∷ [] in
        let gv = given-all U (requires_scope g) me.values v entered g.requires part 0 (tasks h)
        trees.0 (record { facts = refl; guards = refl; cells = refl; opened = refl }) ready room
        (function-fits p.program program n g is_g).requires.items me.met trees.1 in
        let child = one-child p.N gv.children gv.after (tasks h) gv.goes in
        let len : length args ≤ g.params + 0 = omega (arith, count) in (
          record {
            tree = child.0;
            at_node = given-sits U v entered part h g fixed (new_frame n g args destination) tasks
                _ refl gv (record {
                  home = refl;
                  store = entered-store v len
                      (variables-values v 0 args (root-whole top args len me.args_are));
                  fixed_are = root-fixed top fixed fit me.fixed_are;
                  fixed_known = fixed-usable top;
                }) (values-length g.fixed fixed fit) entered-over child.0 child.1;
          },
          (λ i. (gv.filled i).values),
        )

  -- ---- turns

  module _ (fn : PlainFunction) (fixed : List NameValue) (f : Frame) (l : Label) (c : Comp)
      (inv : PlainAssertion) (body b : Block)
      (ok : FrameOk p.program fn fixed (with_rest f (first l (loop c inv body) b)))
      (part : Stock) where
    abbrev turned : PlainState
    turned = root_state at_loop fn f.function
        (root_env at_loop fn f.function (length inv.names) ∷ [])

    turned-over : AllByRecursion (Over (Usable [] turned.sorts Int)) turned.store
    turned-over =
        all-both (Over (Usable [] turned.sorts Int)) (variables_from 0 fn.params)
        (variables_from fn.params fn.locals)
        (variables-over (Usable [] turned.sorts Int) 0 fn.params
        (λ i x y. low-variable fn fn.locals i (omega (arith, y))))
        (variables-over (Usable [] turned.sorts Int) fn.params fn.locals
        (λ i x y. low-variable fn fn.locals i y))

    turned-store :
        (v : Valuation) → map (value v.whole) (variables_from 0 (length f.store)) ≡ f.store →
        map (value v.whole) turned.store ≡ f.store
    turned-store v e =
        let z : fn.params ≡ 0 + fn.params = omega arith in
        ap (map (value v.whole))
        (ap (λ k. variables_from 0 fn.params ++ variables_from k fn.locals) z
        ∙ variables-join 0 fn.params fn.locals
        ∙ ap (variables_from 0) (sym ok.size))
        ∙ e

    turn-sits :
        (U : Table) → FitsRoom p.program U part →
        (me : OwnsInvariant p.program U part fn f.store fixed inv) →
        (s : Sits p part U fn fixed
        (with_rest f (if holds f.store c then append body (first l (loop c inv body) b) else b)))
        × (s.at_node.v
        ≡ (given_invariant p.program U part f.function fn f.store fixed inv me).values)
    turn-sits U room me =
        let top : Root = loop_root fn f.function inv.names me.values in
        let sc = invariant_scope fn inv.names in
        let v = renamed (fn.params + fn.locals) 0 (normal sc me.values) in
        let ready = root-ready top turned refl refl refl [] refl turned-over in
        let trees = roots.loops f.function fn ok.is_fn (loop_point l c inv body b)
        (point-loop p.program fn l c inv body b ok.point) in
        let h = home_of at_loop fn f.function in
        let tasks : Home → List PlainTask = λ h. to_turn h (first l (loop c inv body) b) ∷ [] in
        let act = point-act p.program fn l (loop c inv body) b ok.point in
        let gv = given-all U sc me.values v turned inv.items part 0 (tasks h) trees.0
        (record { facts = refl; guards = refl; cells = refl; opened = refl }) ready room
        act.1.items.items me.met trees.1 in
        let child = one-child p.N gv.children gv.after (tasks h) gv.goes in
        let size = ok.size in
        let len : length f.store ≤ fn.params + fn.locals = omega (arith, size) in
        let t = turn-at p part U fn fixed f l b c inv body child.0 act.0
        (given-sits U v turned part h fn fixed f tasks _ refl gv (record {
          home = refl;
          store = turned-store v
              (variables-values v 0 f.store (root-whole top f.store len me.store_is));
          fixed_are = root-fixed top fixed ok.values me.fixed_are;
          fixed_known = fixed-usable top;
        }) (values-length fn.fixed fixed ok.values) turned-over child.0 child.1) in
        (t.sits, t.named ∙ (λ i. (gv.filled i).values))

  -- ---- the laws

  reached-room :
      (T U : Table) (part : Stock) → Roomy p.program T part → Relies p.program part.guards T U →
      Reached p.program T U part
  reached-room T U part r relies =
      record { fits = r.fits; full = r.full; room = r.room; relies = relies }

  -- a body begins at the values at which its `requires` is given, where it is met again
  pub body-named :
      (n : ℕ) (g : PlainFunction) → slice_get p.program.functions n ≡ Some g → (T : Table)
      (part : Stock) (args : List ℤ) (fixed : List NameValue) (destination : Option ℕ) →
      Roomy p.program T part → length args ≡ g.params → ValuesFit g.fixed fixed →
      (me : OwnsRequires p.program T part g args fixed) →
      StandsAgain p part T fixed (new_frame n g args destination)
      (given_requires p.program T part n g args fixed me)
      (λ U. OwnsRequires p.program U part g args fixed) (λ U m. m.values)
      (λ U m s v. v ≡ (given_requires p.program U part n g args fixed m).values)
  body-named n g is_g T part args fixed destination roomy count fit me =
      let f = new_frame n g args destination in
      let start = given_requires p.program T part n g args fixed me in
      let owned : (U : Table) → Relies p.program part.guards T U →
      Regained U start (OwnsRequires p.program U part g args fixed) (λ m. m.values) =
      λ U relies. stable.requires T U part n g is_g (reached-room T U part roomy relies) args fixed
      count fit me in
      let each : (U : Table) (relies : Relies p.program part.guards T U) (x : Valuation)
      (e : EndsAt U start (owned U relies).passage x) → (s : Sits p part U g fixed f)
      × (s.at_node.v
      ≡ (given_requires p.program U part n g args fixed ((owned U relies).each x e).0).values) =
      λ U relies x e. body-sits n g is_g args fixed destination count fit part U
      (fits-relied p.program T U part roomy.full relies roomy.room)
      ((owned U relies).each x e).0 in
      record {
        stands = record {
          fn = g;
          ok = record {
            is_fn = is_g;
            size =
                length-join args (replicate g.locals (pos 0))
                ∙ (let c = rep-length g.locals (pos 0) in omega (arith, c, count));
            args = take-all args (replicate g.locals (pos 0)) g.params count;
            values = fit;
            point = record {
              fits = (function-fits p.program program n g is_g).body.statements;
              loops = λ w h. h;
            };
          };
          all = λ U relies. (each U relies (owned U relies).u (owned U relies).ends).0;
        };
        owned = owned;
        each = each;
        are = λ U relies. refl;
      }

  pub body-law : BodyLaw p
  body-law n g is_g T part args fixed destination roomy count fit me =
      (body-named n g is_g T part args fixed destination roomy count fit me).stands

  -- a turn begins at those at which its invariant is given, where it is met again
  pub turn-named :
      (part : Stock) (T : Table) (fn : PlainFunction) (fixed : List NameValue) (f : Frame)
      (l : Label) (b : Block) (c : Comp) (i : PlainAssertion) (x : Block) →
      Roomy p.program T part →
      FrameOk p.program fn fixed (with_rest f (first l (loop c i x) b)) →
      (me : OwnsInvariant p.program T part fn f.store fixed i) →
      StandsAgain p part T fixed
      (with_rest f (if holds f.store c then append x (first l (loop c i x) b) else b))
      (given_invariant p.program T part f.function fn f.store fixed i me)
      (λ U. OwnsInvariant p.program U part fn f.store fixed i) (λ U m. m.values)
      (λ U m s v. v ≡ (given_invariant p.program U part f.function fn f.store fixed i m).values)
  turn-named part T fn fixed f l b c i x roomy ok me =
      let next = with_rest f
      (if holds f.store c then append x (first l (loop c i x) b) else b) in
      let start = given_invariant p.program T part f.function fn f.store fixed i me in
      let owned : (U : Table) → Relies p.program part.guards T U →
      Regained U start (OwnsInvariant p.program U part fn f.store fixed i) (λ m. m.values) =
      λ U relies. stable.invariant T U part f.function fn ok.is_fn (loop_point l c i x b)
      (point-loop p.program fn l c i x b ok.point) (reached-room T U part roomy relies) f.store
      fixed ok.size ok.values me in
      let each : (U : Table) (relies : Relies p.program part.guards T U) (y : Valuation)
      (e : EndsAt U start (owned U relies).passage y) → (s : Sits p part U fn fixed next)
      × (s.at_node.v
      ≡ (given_invariant p.program U part f.function fn f.store fixed i
      ((owned U relies).each y e).0).values) =
      λ U relies y e. turn-sits fn fixed f l c i x b ok part U
      (fits-relied p.program T U part roomy.full relies roomy.room)
      ((owned U relies).each y e).0 in
      record {
        stands = record {
          fn = fn;
          ok = record {
            is_fn = ok.is_fn;
            size = ok.size;
            args = ok.args;
            values = ok.values;
            point = on (holds f.store c);
          };
          all = λ U relies. (each U relies (owned U relies).u (owned U relies).ends).0;
        };
        owned = owned;
        each = each;
        are = λ U relies. refl;
      }
    where
      on :
          (t : Bool) →
          Point p.program fn (if t then append x (first l (loop c i x) b) else b)
      on true = point-again p.program fn l c i x b ok.point
      on false = point-next p.program fn l (loop c i x) b ok.point

  pub turn-law : TurnLaw p
  turn-law part T fn fixed f l b c i x roomy ok me =
      (turn-named part T fn fixed f l b c i x roomy ok me).stands
