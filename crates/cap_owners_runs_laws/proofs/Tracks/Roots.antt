-- A frame at a root: what it was handed is given to it again, and behind that it is at a node, to
-- which its walk leads.
use Rattle.std.proofs.Common.{◌≡◌, ◌⊎◌, inl, inr, false, Bool, true, if◌then◌else◌, List, [], ◌∷◌, Option, Some, None, refl, sym, ap, ◌∙◌, subst, arith}
use Rattle.std.specs.Prelude.{option_to_list}
use Rattle.std.specs.List.{AllByRecursion, AllZip}
use Rattle.cap_lin.specs.Values.{Valuation}
use Rattle.cap_lin.specs.declared.row.Sort.TheVariants.{Int}
use Rattle.cap_prog.specs.Program.{Items, none, item, PlainProgram, PlainFunction}
use Rattle.cap_prog.specs.Scopes.{Scope}
use Rattle.cap_goal_spec.specs.States.{PlainState, Home, PlainTask, to_give, PlainGoal, goal, goal_of, goals_of}
use Rattle.cap_goal_spec.specs.Choices.{PlainTree, PlainTrees, no_trees, tree}
use Rattle.cap_machine.specs.declared.event.Event.{Event}
use Rattle.cap_machine.specs.Machine.{Frame}
use Rattle.cap_machine_accounts.specs.Assertions.{NameValue, ValuesFit}
use Rattle.cap_account_resources.specs.Parts.{Table}
use Rattle.cap_account_resources.proofs.Covering.{covered-none}
use Rattle.cap_account_resources.proofs.Stocks.{Stock, no_stock, both, Composes, stock-laws}
use Rattle.cap_account_resources.proofs.Tables.{FitsRoom, fits-composes}
use Rattle.cap_account_states.specs.Nodes.{Children, Open}
use Rattle.cap_account_states.proofs.Alike.{Alike, alike-same, agree-alike}
use Rattle.cap_account_states.proofs.Backed.{IsFirm, Backed}
use Rattle.cap_account_states.proofs.Checked.{Checked, lone-child}
use Rattle.cap_account_states.proofs.Filled.{Filled, filled_at}
use Rattle.cap_account_states.proofs.Items.{AreFit}
use Rattle.cap_account_states.proofs.Meets.{Usable, Old}
use Rattle.cap_account_states.proofs.Naming.{Ready}
use Rattle.cap_account_states.proofs.Roots.{values-length}
use Rattle.cap_account_states.proofs.Terms.{Over}
use Rattle.cap_account_assertions.proofs.Asserted.{DrawsAll, Owns}
use Rattle.cap_account_assertions.proofs.Filling.{fill_items}
use Rattle.cap_account_assertions.proofs.GiveLaw.{given-law}
use Rattle.cap_account_assertions.proofs.Laws.{StateAt, Given}
use Rattle.cap_account_steps.proofs.Frames.{Node}
use Rattle.cap_account_steps.proofs.Stores.{Store, store-alike}
use Rattle.cap_owners_spec.specs.Traced.{Traced, traced, past_width, ◌>>=◌, valuation}
use Rattle.cap_owners_spec.specs.Track.{Fill, Place, TrackedRegion, GivenAssertion, TrackedFrame}
use Rattle.cap_owners_spec.specs.Walks.{Walk, descends, no_items, Interpreting, walk, walk_below, walk_from}
use Rattle.cap_owners_spec.specs.Steps.{beginning, interpreted, fill_now, frame_walk}
use Rattle.cap_owners_walks_laws.proofs.Values.More.{FitsSort}
use Rattle.cap_owners_walks_laws.proofs.Fills.Amounts.{items_drawn, drawn-none}
use Rattle.cap_owners_walks_laws.proofs.Fills.Drawn.{items_met, IsMetBy, IsMetOr, Tells}
use Rattle.cap_owners_walks_laws.proofs.Fills.Giving.{NamesFit}
use Rattle.cap_owners_walks_laws.proofs.Walks.Passing.{more}
use Rattle.cap_owners_walks_laws.proofs.Parts.Held.{IsOf}
use Rattle.cap_owners_walks_laws.proofs.Passes.Rests.{into}
use Rattle.cap_owners_walks_laws.proofs.Passes.Gives.{GoesTo, GivesTo, GivesJust, gives-just}
use Rattle.cap_owners_runs_laws.proofs.Tracks.Tied.{IsTidy, derivation}
use Rattle.cap_owners_runs_laws.proofs.Tracks.Agreeing.{IsBare, AgreeBy, ready-by, store-by}

-- a table owns nothing, at the values of names of this scope
pub record OwnsBare (sc : Scope) (M : Type 0) (values : M → Valuation) : Type 0 where
  pub own : M
  pub names : List NameValue
  pub named : values own ≡ valuation names
  pub have : NamesFit sc names

-- nothing is met by the fill of such names
bare-met :
    (p : PlainProgram) (U : Table) (items : Items) → no_items items ≡ true →
    (a : Valuation) (q r : Stock) (d : DrawsAll p U a items q r) (names : List NameValue) →
    a ≡ valuation names →
    IsMetBy p U a items q r d (record { names = names; wildcards = []; facts = [] })
bare-met p U none e a q r d names n = record { names = n; wildcards = refl; facts = refl }
bare-met p U (item i more) e a q r d names n = absurd (cc)

module _ (p : Checked) (trees : List (Option PlainTree)) where
  abbrev enter : Interpreting
  enter = interpreted (derivation p trees)

  -- ---- what was handed over, by a later table

  -- It is met by this fill, in which each name has a value of its sort, and where there are no
  -- items the names may be any; by whatever regions tell the table, what was handed over comes to
  -- the fill, or a number is too wide.
  pub record IsRefilled (U : Table) (sc : Scope) (items : Items) (a : Valuation) (q r : Stock)
      (d : DrawsAll p.program U a items q r) (g : GivenAssertion) : Type 0 where
    pub fill : Fill
    pub met : IsMetOr p.program U a items q r d fill
    pub have : NamesFit sc fill.names
    pub comes :
        (rs : List TrackedRegion) → Tells rs U →
        (fill_now (derivation p trees) rs (Some g) ≡ past_width)
        ⊎ (fill_now (derivation p trees) rs (Some g) ≡ traced (Some fill))

  -- a number is too wide, whatever regions tell the table
  abbrev pub IsTooWide : Table → GivenAssertion → Type 0
  IsTooWide U g =
      (rs : List TrackedRegion) → Tells rs U →
      fill_now (derivation p trees) rs (Some g) ≡ past_width

  -- the assertion is owned by this table, and met by what was handed over comes to
  pub record MetAgain (U : Table) (part : Stock) (sc : Scope) (items : Items) (M : Type 0)
      (values : M → Valuation) (owns : (m : M) → Owns p.program U part (values m) items)
      (g : GivenAssertion) : Type 0 where
    pub own : M
    pub fills :
        IsRefilled U sc items (values own) part (owns own).0 (owns own).1 g ⊎ IsTooWide U g

  -- ---- a root

  -- its tree is one of the derivation, and these are its tasks
  pub record IsRoot (q : Place) (s : PlainState) (ts : List PlainTask) : Type 0 where
    pub goes : Open p.N (tree q.tree no_trees) s ts
    pub goal_is : goals_of s ts ≡ q.goal ∷ []

  -- the frame begins there, at these values, and was handed this
  abbrev pub begun_at : TrackedFrame → Place → List NameValue → GivenAssertion → TrackedFrame
  begun_at t q vs g = record t { seat = q; values = vs; given = Some g }

  -- ---- a frame at a node

  -- A walk of these regions, with these steps to come, is at the node: its values are alike to
  -- those at which the node's state holds.
  pub record IsThere (U : Table) (part : Stock) (fn : PlainFunction) (fixed : List NameValue)
      (f : Frame) (tasks : Home → List PlainTask) (d : PlainTree)
      (n : Node p part U fn fixed f tasks d) (t : TrackedFrame) (rs : List TrackedRegion)
      (es : List Event) : Type 0 where
    pub w : Walk
    pub there :
        frame_walk (derivation p trees) false rs t es
        ≡ walk (interpreted (derivation p trees)) p.program false d (goal n.state (tasks n.home))
        (more w es)
    pub alike : Alike (Old n.state) n.v (valuation w.values)
    pub tidy : IsTidy rs n.state w

  -- the frame is at a node, to which its walk leads, or a number is too wide
  pub record LedTo (U : Table) (part : Stock) (fn : PlainFunction) (fixed : List NameValue)
      (f : Frame) (tasks : Home → List PlainTask) (t : TrackedFrame) : Type 0 where
    pub tree : PlainTree
    pub at_node : Node p part U fn fixed f tasks tree
    pub walks :
        (rs : List TrackedRegion) → Tells rs U → (es : List Event) →
        (frame_walk (derivation p trees) false rs t es ≡ past_width)
        ⊎ IsThere U part fn fixed f tasks tree at_node t rs es

  -- and its state has just so much
  pub record LedWith (U : Table) (part : Stock) (fn : PlainFunction) (fixed : List NameValue)
      (f : Frame) (tasks : Home → List PlainTask) (t : TrackedFrame) (has : Stock) : Type 0 where
    pub led : LedTo U part fn fixed f tasks t
    pub just : IsOf p.program led.at_node.v led.at_node.state has

  -- ---- at the root

  module _ (U : Table) (part : Stock) (room : FitsRoom p.program U part) (sc : Scope)
      (items : Items) (fit : AreFit p.program sc items) (tasks : Home → List PlainTask) (h : Home)
      (lone : (s : PlainState) → goal_of s (tasks h) ≡ Some (goal s (tasks h))) (s : PlainState)
      (bare : IsBare s) (q : Place) (root : IsRoot q s (to_give items 0 0 ∷ tasks h)) where
    abbrev ts : List PlainTask
    ts = tasks h

    abbrev ks : PlainTrees
    ks = tree q.tree no_trees

    abbrev remains : (s : PlainState) → (g : PlainGoal) × (goal_of s ts ≡ Some g)
    remains s = (goal s ts, lone s)

    bare-at : (a v : Valuation) → Ready sc 0 a v s → StateAt p.program [] U sc 0 v s
    bare-at a v r = record {
      grounded = record {
        meets = r.meets;
        pieces_over = rw bare.guards tt;
        pieces_fit = rw bare.guards tt;
      };
      facts = record {
        holds = rw bare.facts tt;
        over = rw bare.facts tt;
        loose = rw bare.facts tt;
        differ = rw bare.facts tt;
      };
      opened = rw bare.opened tt;
      there = r.there;
      placed = r.placed;
    }

    firm-here : AllByRecursion IsFirm s.facts
    firm-here = rw bare.facts tt

    nothing-backed : (v : Valuation) → Backed p.program v s no_stock
    nothing-backed v = record {
      cells = λ a z. rw bare.cells (omega arith);
      guards = λ n. rw bare.guards (covered-none p.program v n (no_stock.guards n));
    }

    alone : both p.program no_stock part ≡ part
    alone = (stock-laws p.program).zero_left part

    whole : Composes part
    whole = fits-composes p.program U part room

    -- such a state is given all that the part owns
    given-all :
        (a v : Valuation) → Ready sc 0 a v s → (o : Owns p.program U part a items) →
        Given p U 0 v part s ts (fill_items p.program U a items part o.0 o.1 (filled_at 0 v s))
    given-all a v r o =
        subst
        (λ x. Given p U 0 v x s ts
        (fill_items p.program U a items part o.0 o.1 (filled_at 0 v s))) alone
        (given-law p U sc 0 0 a no_stock part o.0 items ts ks v s root.goes (bare-at a v r)
        firm-here r.means fit o.1 (nothing-backed v) (subst Composes (sym alone) whole))

    abbrev GivesAll :
        (x : Fill) → NamesFit sc x.names → Filled → List NameValue → List NameValue → Type 0
    GivesAll x have goal vs ws =
        GivesTo p U sc 0 x.names have part goal whole 0 ts remains [] items ks vs ws
        (valuation vs) s

    -- just so much more
    abbrev GivesAllJust :
        (x : Fill) → NamesFit sc x.names → Filled → List NameValue → List NameValue → Stock →
        Type 0
    GivesAllJust x have goal vs ws more =
        GivesJust p U sc 0 x.names have part goal whole 0 ts remains [] items ks vs ws
        (valuation vs) s more

    nothing-in : (v : Valuation) → IsOf p.program v s no_stock
    nothing-in v = record {
      elements = [];
      forms = rw bare.guards tt;
      cells = λ a z. rw bare.cells refl;
      guards = λ n. rw bare.guards refl;
    }

    -- and a walk leads there, by what the assertion is met
    gives-all :
        (vs : List NameValue) (a : Valuation) (r : Stock)
        (d : DrawsAll p.program U a items part r) (x : Fill) (have : NamesFit sc x.names) →
        IsMetBy p.program U a items part r d x → Ready sc 0 a (valuation vs) s →
        AllZip FitsSort s.sorts vs →
        GivesAllJust x have
        (fill_items p.program U a items part r d (filled_at 0 (valuation vs) s)) vs x.wildcards
        (items_drawn p.program U a items part r d)
    gives-all vs a r d x have met ready sorted =
        subst
        (λ ws. GivesAllJust x have
        (fill_items p.program U a items part r d (filled_at 0 (valuation vs) s)) vs ws
        (items_drawn p.program U a items part r d)) met.wildcards
        (subst
        (λ b. (k : DrawsAll p.program U b items part r) → Ready sc 0 b (valuation vs) s →
        GivesAllJust x have
        (fill_items p.program U b items part r k (filled_at 0 (valuation vs) s)) vs
        (items_met p.program U b items part r k) (items_drawn p.program U b items part r k))
        (sym met.names) by_names d ready)
      where
        by_names :
            (k : DrawsAll p.program U (valuation x.names) items part r) →
            Ready sc 0 (valuation x.names) (valuation vs) s →
            GivesAllJust x have
            (fill_items p.program U (valuation x.names) items part r k
            (filled_at 0 (valuation vs) s)) vs
            (items_met p.program U (valuation x.names) items part r k)
            (items_drawn p.program U (valuation x.names) items part r k)
        by_names k ready =
            subst
            (λ y. (ne : Composes y) →
            GivesJust p U sc 0 x.names have y
            (fill_items p.program U (valuation x.names) items part r k
            (filled_at 0 (valuation vs) s)) ne 0 ts remains [] items ks vs
            (items_met p.program U (valuation x.names) items part r k) (valuation vs) s
            (items_drawn p.program U (valuation x.names) items part r k)) alone
            (λ ne. gives-just p U sc 0 0 x.names have no_stock part r items ts remains ks
            vs s root.goes (bare-at (valuation x.names) (valuation vs) ready) firm-here ready.means
            fit k (nothing-backed (valuation vs)) ne sorted) whole

    -- ---- the walk from the root

    -- behind what is given, at these values
    abbrev behind : List TrackedRegion → Fill → List NameValue → List Event → Walk
    behind rs x us es =
        record (beginning rs us [] None es) { fill = if no_items items then Some x else None }

    walk-gives :
        (x y : Fill) → (if no_items items then Some x else Some y) ≡ Some x →
        (have : NamesFit sc y.names) (goal : Filled) (vs : List NameValue)
        (g : GivesAll y have goal vs y.wildcards) (rs : List TrackedRegion) (es : List Event) →
        GoesTo (walk_from enter p.program false q (beginning rs vs [] (Some x) es))
        (into enter p.program g.given.children (goals_of g.given.after ts)
        (behind rs x g.values es))
    walk-gives x y same have goal vs g rs es =
        let w = beginning rs vs [] (Some x) es in
        let start = λ (o : Option Fill). into enter p.program ks
        (goals_of s (to_give items 0 0 ∷ ts)) (record w { fill = o }) in
        let here : walk_from enter p.program false q w
        ≡ start (if no_items items then Some x else Some y) =
        (λ i. walk_below enter p.program false ks (sym root.goal_is i)
        (traced (descends (Some 0) w)))
        ∙ ap start (sym same) in
        elim (g.walks false enter w y.facts) [
          | inl wide ↦ inl (here ∙ wide)
          | inr on ↦ inr (here ∙ on)
        ]

    -- ---- the node behind it

    module _ (fn : PlainFunction) (fixed : List NameValue) (f : Frame)
        (known : ValuesFit fn.fixed fixed)
        (over : AllByRecursion (Over (Usable [] s.sorts Int)) s.store) where
      child :
          (v : Valuation) (goal_is : Filled) (gv : Given p U 0 v part s ts goal_is) →
          (d : PlainTree) × p.N d gv.after ts × (gv.children ≡ tree d no_trees)
      child v goal_is gv =
          lone-child p.N gv.children gv.after ts
          (subst (Children p.N gv.children) (ap option_to_list (lone gv.after)) gv.goes)

      abbrev node_there :
          (v : Valuation) (goal_is : Filled) (gv : Given p U 0 v part s (tasks h) goal_is) →
          Store v s h fn fixed f → Node p part U fn fixed f tasks (child v goal_is gv).0
      node_there v goal_is gv st = record {
        state = gv.after;
        v = gv.w;
        home = h;
        valid = (child v goal_is gv).1;
        none_open = gv.goes_on.opened ∙ bare.opened;
        grounded = gv.grounded;
        facts = gv.facts;
        firm = gv.firm;
        backed = gv.backed;
        store = store-alike v gv.w s gv.after h fn fixed f over
            (agree-alike (Old s) v gv.w gv.agree) gv.goes_on.sorts gv.goes_on.store
            (values-length fn.fixed fixed known) st;
      }

      -- What was handed over comes to a fill, at these values. The items are given by the other;
      -- where there are any, that is the same.
      led-by-fill :
          (t : TrackedFrame) (vs : List NameValue) (z : GivenAssertion) (a : Valuation) (r : Stock)
          (d : DrawsAll p.program U a items part r) (x y : Fill) →
          (if no_items items then Some x else Some y) ≡ Some x →
          IsMetBy p.program U a items part r d y → NamesFit sc y.names →
          ((rs : List TrackedRegion) → Tells rs U →
          (fill_now (derivation p trees) rs (Some z) ≡ past_width)
          ⊎ (fill_now (derivation p trees) rs (Some z) ≡ traced (Some x))) →
          Ready sc 0 a (valuation vs) s → AllZip FitsSort s.sorts vs →
          Store (valuation vs) s h fn fixed f →
          LedWith U part fn fixed f tasks (begun_at t q vs z)
          (items_drawn p.program U a items part r d)
      led-by-fill t vs z a r d x y same met have comes ready sorted st =
          let goal_is = fill_items p.program U a items part r d (filled_at 0 (valuation vs) s) in
          let all = gives-all vs a r d y have met ready sorted in
          let g = all.gives in
          let gv = g.given in
          let k = child (valuation vs) goal_is gv in
          record {
            led = record {
              tree = k.0;
              at_node = node_there (valuation vs) goal_is gv st;
              walks = λ rs tells es.
                  let from = λ (o : Traced (Option Fill)). o >>= λ (x : Option Fill).
                  walk_from enter p.program false q (beginning rs vs [] x es) in
                  elim (comes rs tells) [
                    | inl wide ↦ inl (ap from wide)
                    | inr is ↦ elim (walk-gives x y same have goal_is vs g rs es) [
                      | inl wide ↦ inl (ap from is ∙ wide)
                      | inr on ↦ inr (record {
                        w = behind rs x g.values [];
                        there =
                            ap from is
                            ∙ on
                            ∙ (λ i. walk_below enter p.program false (k.2 i)
                            (option_to_list (lone gv.after i))
                            (traced (descends (Some 0) (behind rs x g.values es))));
                        alike =
                            subst (Alike (Old gv.after) gv.w) g.valued
                            (alike-same (Old gv.after) gv.w);
                        tidy = record {
                          sorted = g.sorted;
                          regions = refl;
                          next = refl;
                          events = refl;
                        };
                      })
                    ]
                  ];
            };
            just =
                subst (IsOf p.program gv.w gv.after)
                ((stock-laws p.program).zero_left (items_drawn p.program U a items part r d))
                (all.just no_stock (nothing-in (valuation vs)));
          }

      -- it is too wide, wherever the state holds
      led-too-wide :
          (t : TrackedFrame) (vs : List NameValue) (y : GivenAssertion) (a v : Valuation) →
          Owns p.program U part a items → IsTooWide U y → Ready sc 0 a v s →
          Store v s h fn fixed f → LedTo U part fn fixed f tasks (begun_at t q vs y)
      led-too-wide t vs y a v o wide ready st =
          let goal_is = fill_items p.program U a items part o.0 o.1 (filled_at 0 v s) in
          let gv = given-all a v ready o in
          record {
            tree = (child v goal_is gv).0;
            at_node = node_there v goal_is gv st;
            walks = λ rs tells es.
                inl (ap (λ (x : Traced (Option Fill)). x >>= λ (z : Option Fill).
                walk_from enter p.program false q (beginning rs vs [] z es)) (wide rs tells));
          }

      module _ (t : TrackedFrame) (vs : List NameValue) (y : GivenAssertion) (M : Type 0)
          (values : M → Valuation) (owns : (m : M) → Owns p.program U part (values m) items)
          (v : M → Valuation) (ready : (m : M) → Ready sc 0 (values m) (v m) s)
          (store : (m : M) → Store (v m) s h fn fixed f) (sorted : AllZip FitsSort s.sorts vs)
          (agrees : (m : M) (names : List NameValue) → values m ≡ valuation names →
          NamesFit sc names → AgreeBy s.sorts (v m) (valuation vs)) where
        led-at :
            (m : M) (x z : Fill) → (if no_items items then Some x else Some z) ≡ Some x →
            IsMetBy p.program U (values m) items part (owns m).0 (owns m).1 z →
            NamesFit sc z.names →
            ((rs : List TrackedRegion) → Tells rs U →
            (fill_now (derivation p trees) rs (Some y) ≡ past_width)
            ⊎ (fill_now (derivation p trees) rs (Some y) ≡ traced (Some x))) →
            LedWith U part fn fixed f tasks (begun_at t q vs y)
            (items_drawn p.program U (values m) items part (owns m).0 (owns m).1)
        led-at m x z same met have comes =
            let g = agrees m z.names met.names have in
            led-by-fill t vs y (values m) (owns m).0 (owns m).1 x z same met have comes
            (ready-by sc (values m) (v m) vs s bare sorted g (ready m)) sorted
            (store-by (v m) (valuation vs) s h fn fixed f over g known (store m))

        led-filled :
            (no_items items ≡ true → OwnsBare sc M values) → (m : M) →
            IsRefilled U sc items (values m) part (owns m).0 (owns m).1 y → (b : Bool) →
            no_items items ≡ b →
            LedWith U part fn fixed f tasks (begun_at t q vs y)
            (items_drawn p.program U (values m) items part (owns m).0 (owns m).1)
        led-filled bare m k true e =
            let o = bare e in
            let z : Fill = record { names = o.names; wildcards = []; facts = [] } in
            subst (LedWith U part fn fixed f tasks (begun_at t q vs y))
            (drawn-none p.program U (values o.own) items part (owns o.own).0 (owns o.own).1 e
            ∙ sym (drawn-none p.program U (values m) items part (owns m).0 (owns m).1 e))
            (led-at o.own k.fill z (ap (λ b. if b then Some k.fill else Some z) e)
            (bare-met p.program U items e (values o.own) part (owns o.own).0 (owns o.own).1 o.names
            o.named) o.have k.comes)
        led-filled bare m k false e =
            led-at m k.fill k.fill (ap (λ b. if b then Some k.fill else Some k.fill) e)
            (record {
              names = k.met.names e;
              wildcards = k.met.wildcards;
              facts = k.met.facts;
            }) k.have k.comes

        -- The frame is led behind what it was handed, where that is met again: it holds at these
        -- values of soundness's, and they agree with those of the root where each name has a value.
        pub led-to :
            (no_items items ≡ true → OwnsBare sc M values) →
            MetAgain U part sc items M values owns y →
            LedTo U part fn fixed f tasks (begun_at t q vs y)
        led-to bare met = elim met.fills [
          | inl m ↦ (led-filled bare met.own m (no_items items) refl).led
          | inr wide ↦
              led-too-wide t vs y (values met.own) (v met.own) (owns met.own) wide
              (ready met.own) (store met.own)
        ]

        -- where that is still met as it was, its state has just what is drawn
        pub led-just :
            (no_items items ≡ true → OwnsBare sc M values) → (m : M) →
            IsRefilled U sc items (values m) part (owns m).0 (owns m).1 y →
            LedWith U part fn fixed f tasks (begun_at t q vs y)
            (items_drawn p.program U (values m) items part (owns m).0 (owns m).1)
        led-just bare m k = led-filled bare m k (no_items items) refl
