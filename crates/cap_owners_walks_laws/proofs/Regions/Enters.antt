-- A walk over a node that enters a region: it comes to the case by which the region owns its part
-- by now, with that part given, and the state there holds at the walk's values.
use Rattle.std.proofs.Common.{◌≡◌, ◌⊎◌, inl, inr, ℕ, zero, suc, ℤ, Bool, true, List, [], ◌∷◌, ◌++◌, length, map, drop, replicate, Option, Some, None, refl, sym, ap, ◌∙◌, subst}
use Rattle.std.specs.Prelude.{slice_get, nat_eq, nat_lt, if◌then◌else◌}
use Rattle.std.specs.List.{AllByRecursion}
use Rattle.std.proofs.lemmas.Slice.Zip.{AllZip-long}
use Rattle.cap_lin.specs.Rows.{row_of}
use Rattle.cap_lin.specs.Values.{Valuation, value}
use Rattle.cap_lin.specs.Solves.{Proves}
use Rattle.cap_lin.specs.declared.row.Op.TheVariants.{Ne as Unequal}
use Rattle.cap_lin.specs.declared.row.Sort.{Sort}
use Rattle.cap_lin.specs.declared.row.Sort.TheVariants.{Int}
use Rattle.cap_farkas.specs.declared.cert.Cert.{Cert}
use Rattle.cap_prog.specs.Program.{Items, none, item, PlainAct, Block, first, PlainCase, PlainRegionType, Label, PlainFunction}
use Rattle.cap_prog.specs.Scopes.{Scope, region_scope, region_sorts}
use Rattle.cap_prog.specs.WellFormed.{IsWellFormed}
use Rattle.cap_goal_spec.specs.States.{PlainFact, PlainState, Home, PlainTask, to_give, PlainGoal, goal, goal_of, goals_of}
use Rattle.cap_goal_spec.specs.Choices.{PlainTree, node, by_enter, PlainTrees, no_trees, tree}
use Rattle.cap_rules.specs.Making.{env_at}
use Rattle.cap_rules.specs.Closing.{address_of, of_type, prove_other, with_opened, case_goals}
use Rattle.cap_rules_nodes.specs.Nodes.{goals_left}
use Rattle.cap_machine.specs.Machine.{Heap, Frame}
use Rattle.cap_machine_accounts.specs.Assertions.{NameValue}
use Rattle.cap_account_resources.specs.Parts.{known_as, Table}
use Rattle.cap_account_resources.proofs.Lists.{all-at}
use Rattle.cap_account_resources.proofs.Stocks.{Stock, both, all_of}
use Rattle.cap_account_states.specs.Nodes.{Comes, Children, Open}
use Rattle.cap_account_states.proofs.Attempts.{comes-bind, comes-more, after-found, after-need}
use Rattle.cap_account_states.proofs.Backed.{IsFirm, Backed}
use Rattle.cap_account_states.proofs.Checked.{Checked, first_trees, later_trees, lone-child}
use Rattle.cap_account_states.proofs.Facts.{FactHolds}
use Rattle.cap_account_states.proofs.Filled.{filled_at}
use Rattle.cap_account_states.proofs.Naming.{Means}
use Rattle.cap_account_assertions.proofs.Asserted.{DrawsAll, OwnsRegion}
use Rattle.cap_account_assertions.proofs.Filling.{fill_items}
use Rattle.cap_account_assertions.proofs.Laws.{StateAt, Given, GivenAlongLaw}
use Rattle.cap_account_steps.proofs.CaseStates.{case_state, LeavesOne, case-goal}
use Rattle.cap_account_steps.proofs.CaseValues.{names_values, entered_values, entered_names}
use Rattle.cap_account_steps.proofs.Entering as entering
use Rattle.cap_account_steps.proofs.Stores.{Store, running}
use Rattle.cap_account_steps.proofs.Worlds.{World, Exact, regions_of, Opening}
use Rattle.cap_machine.specs.declared.event.Event.{Event}
use Rattle.cap_owners_spec.specs.Traced.{Traced, traced, past_width, valuation}
use Rattle.cap_owners_spec.specs.Track.{Fill, TrackedRegion, tracked_at}
use Rattle.cap_owners_spec.specs.Walks.{Walk, descends, Interpreted, Interpreting, no_items, Halt, walk_below}
use Rattle.cap_owners_walks_laws.proofs.Fills.Drawn.{items_met, IsMetBy, Tells}
use Rattle.cap_owners_walks_laws.proofs.Fills.Giving.{NamesFit}
use Rattle.cap_owners_walks_laws.proofs.Walks.Leading.{Left, node-leads}
use Rattle.cap_owners_walks_laws.proofs.Passes.Rests.{walks_into, told-region, below-wide}
use Rattle.cap_owners_walks_laws.proofs.Passes.Gives.{GoesTo, GivesTo, gives-to}
use Rattle.cap_owners_walks_laws.proofs.Regions.Entered.{entered_walk, enter-so, valuation-entered, chosen, owning_world}
use Rattle.cap_owners_walks_laws.proofs.Regions.Regiven.{AreSorted, either-way}
use Rattle.cap_owners_walks_laws.proofs.Regions.Reshut.{RegionMet}
use Rattle.cap_owners_walks_laws.proofs.Regions.Telling.{ToldSo}

-- ---- to a child by its number

-- behind so many goals is one, and into its tree the walk goes
pub below-at :
    (seating : Bool) (enter : Interpreting) (p : Checked) (ks : PlainTrees)
    (before behind : List PlainGoal)
    (g : PlainGoal) (w : Walk) → Children p.N ks (before ++ (g ∷ behind)) →
    walk_below enter p.program seating ks (before ++ (g ∷ behind))
    (traced (descends (Some (length before)) w))
    ≡ walks_into seating enter p.program (first_trees 1 (later_trees (length before) ks)) (g ∷ []) w
below-at seating enter p no_trees [] behind g w h = absurd h
below-at seating enter p (tree t ts) [] behind g w h = refl
below-at seating enter p no_trees (b ∷ before) behind g w h = absurd h
below-at seating enter p (tree t ts) (b ∷ before) behind g w h =
    below-at seating enter p ts before behind g w h.1

-- ---- values of sorts

pub sorted-join :
    (os us : List Sort) (vs ws : List NameValue) → AreSorted os vs → AreSorted us ws →
    AreSorted (os ++ us) (vs ++ ws)
sorted-join [] us [] ws h k = k
sorted-join [] us (v ∷ vs) ws h k = absurd h
sorted-join (o ∷ os) us [] ws h k = absurd h
sorted-join (o ∷ os) us (v ∷ vs) ws h k = (h.0, sorted-join os us vs ws h.1 k)

sorted-drop :
    (m : ℕ) (names : List Sort) (ns : List NameValue) → AreSorted (replicate m Int ++ names) ns →
    AreSorted names (drop m ns)
sorted-drop zero names ns h = h
sorted-drop (suc m) names [] h = absurd h
sorted-drop (suc m) names (n ∷ ns) h = sorted-drop m names ns h.1

-- ---- the node

module _ (p : Checked) (program : IsWellFormed p.program) (along : GivenAlongLaw p)
    (V : Table) (share : ℤ → Stock) (part : Stock) (heap : Heap)
    (world : World p.program V share part heap) (fn : PlainFunction) (fixed : List NameValue)
    (size : length fixed ≡ length fn.fixed) (f0 : Frame) (h0 : Home) (seating : Bool)
    (enter : Interpreting) where
  -- one region more is open: the state holds so at these values
  pub record EntersTo (vs : List NameValue) (s : PlainState) (i : ℕ) (ts : List PlainTask)
      : Type 0 where
    pub f : PlainFact
    pub is_fact : slice_get s.facts i ≡ Some f
    pub values : List NameValue
    pub after : PlainState
    pub child : PlainTree
    pub valid : p.N child after ts
    pub opened : after.opened ≡ s.opened ++ f ∷ []
    pub opening : Opening p.program V share part (valuation values) after
    pub store : Store (valuation values) after h0 fn fixed f0
    pub sorted : AreSorted after.sorts values

  module _ (vs : List NameValue) (s : PlainState)
      (o : Opening p.program V share part (valuation vs) s)
      (st : Store (valuation vs) s h0 fn fixed f0) (sorted : AreSorted s.sorts vs) (i : ℕ)
      (l : Label) (a : PlainAct) (b : Block) (cs : List Cert) (ks : PlainTrees)
      (hd : p.N (node (by_enter i cs) ks) s (running (first l a b) h0)) where
    abbrev v : Valuation
    v = valuation vs

    abbrev ts : List PlainTask
    ts = running (first l a b) h0

    abbrev N : List PlainGoal → Type 0
    N = Left p (by_enter i cs) ks (goal s ts)

    -- it comes to a state in which one region more is open, with the same steps to come
    abbrev pub EntersSo : Walk → Event → List Event → Traced Halt → Type 0
    EntersSo w ev more h =
        (h ≡ past_width)
        ⊎ ((t : EntersTo vs s i (running (first l a b) h0)) × (fill : Option Fill)
        × (h ≡ walks_into seating enter p.program (tree t.child no_trees)
        (goal t.after (running (first l a b) h0) ∷ [])
        (record w { values = t.values; events = ev ∷ more; fill = fill })))

    -- which fact is opened, and the goals of its type's cases
    record Entry : Type 0 where
      f : PlainFact
      is_fact : slice_get s.facts i ≡ Some f
      k : PlainRegionType
      is_type : slice_get p.program.regions f.kind ≡ Some k
      others :
          AllByRecursion (λ g. Proves s.rows (row_of f.region Unequal g.region Int))
          (of_type f.kind s.opened)
      goes : Comes (case_goals (with_opened s i f) f l.number ts k.cases) N

    entry : Entry
    entry =
        let go = node-leads p (by_enter i cs) ks s ts hd in
        let addressed = after-found (address_of a) _ N go in
        let few = after-need (nat_lt (length s.opened) 2) _ N addressed.2 in
        let fact = after-found (slice_get s.facts i) _ N few.1 in
        let type = after-found (slice_get p.program.regions fact.0.kind) _ N fact.2 in
        let f = fact.0 in
        let k = type.0 in
        let rest = λ (_ : Unit {0}). case_goals (with_opened s i f) f l.number ts k.cases in
        let other = entering.comes-other s f (of_type f.kind s.opened) (λ u. Comes (rest u) N)
        (comes-bind (prove_other s f (of_type f.kind s.opened)) rest N type.2) in
        record {
          f = f;
          is_fact = fact.1;
          k = k;
          is_type = type.1;
          others = other.0;
          goes = other.1;
        }

    module _ (e : Entry) where
      abbrev n : ℤ
      n = value v.whole e.f.region

      abbrev args : List ℤ
      args = map (value v.whole) e.f.args

      abbrev state : ℤ
      state = value v.whole e.f.state

      exact : Exact v V e.f
      exact =
          entering.firm-exact v V e.f (all-at IsFirm s.facts i e.f o.firm e.is_fact)
          (all-at (FactHolds v V) s.facts i e.f o.facts.holds e.is_fact)

      kids-go :
          Comes (case_goals (with_opened s i e.f) e.f l.number ts e.k.cases) (Children p.N ks)
      kids-go =
          comes-more (case_goals (with_opened s i e.f) e.f l.number ts e.k.cases) N
          (Children p.N ks) (λ gs m. m.1) e.goes

      -- the region owns its part so
      module _ (x : Interpreted) (met : RegionMet p V n e.f.kind args state (share n) x) where
        abbrev IsSo :
            (m : ℤ) (j : ℕ) (zs : List ℤ) (c : ℤ) → OwnsRegion p.program V m j zs c (share m) →
            Type 0
        IsSo m j zs c own =
            (own.number ≡ x.case)
            × IsMetBy p.program V own.values own.case.items (share m) own.met.0 own.met.1 x.fill
            × NamesFit (region_scope own.type own.case.names) x.fill.names
            × AreSorted (region_sorts own.type own.case.names) x.fill.names

        is-so : IsSo n e.f.kind args state met.own
        is-so = (met.number, met.met, met.fits, met.sorted)

        abbrev there : World p.program V share part heap
        there =
            owning_world p.program V share part heap world n e.f.kind args state exact IsSo met.own
            is-so

        abbrev told_exact : Exact v V e.f
        told_exact =
            entering.exact p program along V share part heap there fn fixed size f0 h0 v s o st i
            e.f e.k e.is_fact e.is_type

        abbrev own : OwnsRegion p.program V n e.f.kind args state (share n)
        own = there.owns n e.f.kind args state told_exact

        own-so : IsSo n e.f.kind args state own
        own-so =
            (chosen p.program V share part heap world n e.f.kind args state exact IsSo met.own is-so
            n e.f.kind args state told_exact).1 refl

        same-type : own.type ≡ e.k
        same-type =
            entering.same-type p program along V share part heap there fn fixed size f0 h0 v s o st
            i e.f e.k e.is_fact e.is_type

        abbrev c : PlainCase
        c = own.case

        abbrev sc : Scope
        sc = region_scope e.k own.case.names

        abbrev s2 : PlainState
        s2 = case_state (with_opened s i e.f) e.f own.case

        abbrev names : List NameValue
        names = x.fill.names

        abbrev vs2 : List NameValue
        vs2 = vs ++ drop e.k.params x.fill.names

        ok : NamesFit sc names
        ok = subst (λ (y : PlainRegionType). NamesFit (region_scope y own.case.names) names)
            same-type own-so.2

        count : length s.sorts ≡ length vs
        count = sym (AllZip-long _ s.sorts vs sorted)

        values-are :
            entered_values v own.values (length s.sorts) e.k.params sc ≡ valuation vs2
        values-are =
            ap (λ u. entered_values v u (length s.sorts) e.k.params sc) own-so.1.names
            ∙ ap (λ m. entered_values v (valuation names) m e.k.params sc) count
            ∙ sym (valuation-entered vs names e.k.params sc ok)

        names-are : entered_names v own.values (length s.sorts) e.k.params sc ≡ valuation names
        names-are = ap (λ u. entered_names v u (length s.sorts) e.k.params sc) own-so.1.names

        sorted2 : AreSorted s2.sorts vs2
        sorted2 =
            sorted-join s.sorts own.case.names vs (drop e.k.params names) sorted
            (sorted-drop e.k.params own.case.names names
            (subst (λ (y : PlainRegionType). AreSorted (region_sorts y own.case.names) names)
            same-type own-so.3))

        abbrev held : Stock
        held = both p.program part (all_of p.program (regions_of v s.opened) share)

        goes :
            Open p.N (first_trees 1 (later_trees own.number ks)) s2
            (to_give c.items (length s.envs) l.number ∷ ts)
        goes =
            subst (λ us. Open p.N us s2 (to_give c.items (length s.envs) l.number ∷ ts))
            (entering.kids-are p program along V share part heap there fn fixed size f0 h0 v s o st
            i e.f e.k e.is_fact e.is_type e.others l a b ks kids-go)
            (entering.kids-goals p program along V share part heap there fn fixed size f0 h0 v s o
            st i e.f e.k e.is_fact e.is_type e.others l a b ks kids-go)

        abbrev GivenAt : (u w : Valuation) → DrawsAll p.program V w c.items (share n) own.met.0 →
            Type 0
        GivenAt u w d =
            Given p V (length s.envs) u (both p.program held (share n)) s2 ts
            (fill_items p.program V w c.items (share n) own.met.0 d
            (filled_at (length s.envs) u s2))

        abbrev drawn :
            DrawsAll p.program V (entered_names v own.values (length s.sorts) e.k.params sc) c.items
            (share n) own.met.0
        drawn =
            entering.drawn p program along V share part heap there fn fixed size f0 h0 v s o st i
            e.f e.k e.is_fact e.is_type e.others l a b ks kids-go

        one-denominator : nat_eq v.fraction.under own.values.fraction.under ≡ true
        one-denominator =
            ap (λ (u : Valuation). nat_eq v.fraction.under u.fraction.under) own-so.1.names

        met-drawn :
            items_met p.program V (entered_names v own.values (length s.sorts) e.k.params sc)
            c.items (share n) own.met.0 drawn
            ≡ x.fill.wildcards
        met-drawn =
            subst (λ t. items_met p.program V
            (if t then own.values
            else names_values v own.values (length s.sorts) e.k.params sc) c.items (share n)
            own.met.0
            (entering.drawn_by p program along V share part heap there fn fixed size f0 h0 v s o st
            i e.f e.k e.is_fact e.is_type e.others l a b ks kids-go t)
            ≡ x.fill.wildcards) (sym one-denominator) own-so.1.wildcards

        -- the same, given at values by name
        record Back (w : Valuation) : Type 0 where
          d : DrawsAll p.program V w c.items (share n) own.met.0
          meets : items_met p.program V w c.items (share n) own.met.0 d ≡ x.fill.wildcards
          returns :
              (u : Valuation) (g : GivenAt u w d) →
              (r : GivenAt u (entered_names v own.values (length s.sorts) e.k.params sc) drawn)
              × (r.after ≡ g.after) × (r.w ≡ g.w)

        at-names : Back (valuation names)
        at-names =
            subst Back names-are
            (record { d = drawn; meets = met-drawn; returns = λ u g. (g, refl, refl) })

        remains : (t : PlainState) → (g : PlainGoal) × (goal_of t ts ≡ Some g)
        remains t = (goal t ts, refl)

        abbrev GivesHere : Type 0
        GivesHere =
            GivesTo p V sc (length s.envs) names ok (both p.program held (share n))
            (fill_items p.program V (valuation names) c.items (share n) own.met.0 at-names.d
            (filled_at (length s.envs) (valuation vs2) s2))
            (entering.composes p program along V share part heap there fn fixed size f0 h0 v s o st
            i e.f e.k e.is_fact e.is_type e.others l a b ks kids-go) l.number ts remains [] c.items
            (first_trees 1 (later_trees own.number ks)) vs2
            (items_met p.program V (valuation names) c.items (share n) own.met.0 at-names.d)
            (valuation vs2) s2

        gives : GivesHere
        gives =
            gives-to p V sc (length s.envs) l.number names ok held (share n) own.met.0 c.items ts
            remains (first_trees 1 (later_trees own.number ks)) vs2 s2 goes
            (subst (λ u. StateAt p.program [] V sc (length s.envs) u s2) values-are
            (entering.state2 p program along V share part heap there fn fixed size f0 h0 v s o st i
            e.f e.k e.is_fact e.is_type e.others l a b ks kids-go))
            (entering.firm1 p program along V share part heap there fn fixed size f0 h0 v s o st i
            e.f e.k e.is_fact e.is_type e.others l a b ks kids-go)
            (subst (Means sc (valuation vs2) (env_at s2 (length s.envs))) names-are
            (subst (λ u. Means sc u (env_at s2 (length s.envs))
            (entered_names v own.values (length s.sorts) e.k.params sc)) values-are
            (entering.means2 p program along V share part heap there fn fixed size f0 h0 v s o st i
            e.f e.k e.is_fact e.is_type e.others l a b ks kids-go)))
            (entering.case-fits p program along V share part heap there fn fixed size f0 h0 v s o st
            i e.f e.k e.is_fact e.is_type).items.items at-names.d
            (subst (λ u. Backed p.program u s2 held) values-are
            (entering.backed2 p program along V share part heap there fn fixed size f0 h0 v s o st i
            e.f e.k e.is_fact e.is_type e.others l a b ks kids-go))
            (entering.composes p program along V share part heap there fn fixed size f0 h0 v s o st
            i e.f e.k e.is_fact e.is_type e.others l a b ks kids-go) sorted2

        module _ (g : GivesHere) where
          by-name :
              (r : GivenAt (entered_values v own.values (length s.sorts) e.k.params sc)
              (entered_names v own.values (length s.sorts) e.k.params sc) drawn)
              × (r.after ≡ g.given.after) × (r.w ≡ g.given.w)
          by-name =
              let m = subst (λ u. (r : GivenAt u (valuation names) at-names.d)
              × (r.after ≡ g.given.after) × (r.w ≡ g.given.w)) (sym values-are)
              (g.given, refl, refl) in
              let k = at-names.returns (entered_values v own.values (length s.sorts) e.k.params sc)
              m.0 in
              (k.0, k.1 ∙ m.1, k.2 ∙ m.2)

          same-values : by-name.0.w ≡ valuation g.values
          same-values = by-name.2 ∙ g.valued

          child : (d : PlainTree) × p.N d g.given.after ts × (g.given.children ≡ tree d no_trees)
          child = lone-child p.N g.given.children g.given.after ts g.given.goes

          abbrev enters-to : EntersTo vs s i ts
          enters-to = record {
            f = e.f;
            is_fact = e.is_fact;
            values = g.values;
            after = g.given.after;
            child = child.0;
            valid = child.1;
            opened = g.given.goes_on.opened;
            opening =
                subst (Opening p.program V share part (valuation g.values)) by-name.1
                (subst (λ u. Opening p.program V share part u by-name.0.after) same-values
                (entering.opening-then p program along V share part heap there fn fixed size f0 h0 v
                s o st i e.f e.k e.is_fact e.is_type e.others l a b ks kids-go by-name.0));
            store =
                subst (λ t. Store (valuation g.values) t h0 fn fixed f0) by-name.1
                (subst (λ u. Store u by-name.0.after h0 fn fixed f0) same-values
                (entering.store-then p program along V share part heap there fn fixed size f0 h0 v s
                o st i e.f e.k e.is_fact e.is_type e.others l a b ks kids-go by-name.0));
            sorted = g.sorted;
          }

          -- ---- the walk there

          leaves-one : LeavesOne (length s.envs) l.number ts
          leaves-one t none = refl
          leaves-one t (item y more) = refl

          own-goal :
              (xs : Items) →
              (u : PlainGoal) × (goals_of s2 (to_give xs (length s.envs) l.number ∷ ts) ≡ u ∷ [])
          own-goal none = (goal s2 ts, refl)
          own-goal (item y more) =
              (goal s2 (to_give (item y more) (length s.envs) l.number ∷ ts), refl)

          into-case :
              (w : Walk) →
              walk_below enter p.program seating ks
              (goals_left p.program (goal s ts) (by_enter i cs))
              (traced (descends (Some x.case) w))
              ≡ walks_into seating enter p.program (first_trees 1 (later_trees own.number ks))
              (goals_of s2 (to_give c.items (length s.envs) l.number ∷ ts)) w
          into-case w =
              let cg = case-goal (with_opened s i e.f) e.f l.number ts e.k.cases own.number own.case
              N e.goes
              (entering.is-case p program along V share part heap there fn fixed size f0 h0 v s o st
              i e.f e.k e.is_fact e.is_type) in
              let at = cg.goes.comes in
              let og = own-goal c.items in
              let num = cg.count leaves-one in
              let there_goals = ap (λ us. cg.before ++ (us ++ cg.behind)) og.1 in
              ap (λ gs. walk_below enter p.program seating ks gs (traced (descends (Some x.case) w)))
              (at.0 ∙ there_goals)
              ∙ ap (λ m. walk_below enter p.program seating ks (cg.before ++ (og.0 ∷ cg.behind))
              (traced (descends (Some m) w))) (sym own-so.0 ∙ sym num)
              ∙ below-at seating enter p ks cg.before cg.behind og.0 w
              (subst (Children p.N ks) there_goals at.1)
              ∙ (λ j. walks_into seating enter p.program (first_trees 1 (later_trees (num j) ks)) (sym og.1 j) w)

          abbrev last_fill : Option Fill
          last_fill = if no_items c.items then Some x.fill else None

          goes-there :
              (w : Walk) (ev : Event) (more : List Event) →
              GoesTo
              (walk_below enter p.program seating ks
              (goals_left p.program (goal s ts) (by_enter i cs))
              (traced (descends (Some x.case)
              (entered_walk e.k x (record w { values = vs; events = ev ∷ more })))))
              (walks_into seating enter p.program (tree child.0 no_trees) (goal g.given.after ts ∷ [])
              (record w { values = g.values; events = ev ∷ more; fill = last_fill }))
          goes-there w ev more =
              let w3 = entered_walk e.k x (record w { values = vs; events = ev ∷ more }) in
              let same_fill = ap (λ us. record {
                names = x.fill.names;
                wildcards = us;
                facts = x.fill.facts;
              }) at-names.meets in
              let begin = into-case w3
              ∙ ap (λ u. walks_into seating enter p.program (first_trees 1 (later_trees own.number ks))
              (goals_of s2 (to_give c.items (length s.envs) l.number ∷ ts))
              (record w3 { fill = u }))
              (sym (either-way (no_items c.items) (Some x.fill) (Some (record {
                names = x.fill.names;
                wildcards =
                    items_met p.program V (valuation names) c.items (share n) own.met.0 at-names.d;
                facts = x.fill.facts;
              })) (Some x.fill) refl (ap Some same_fill))) in
              elim (g.walks seating enter w3 x.fill.facts) [
                | inl wide ↦ inl (begin ∙ wide)
                | inr on ↦ inr (begin ∙ on
                    ∙ ap (λ us. walks_into seating enter p.program us (goal g.given.after ts ∷ [])
                    (record w { values = g.values; events = ev ∷ more; fill = last_fill })) child.2)
              ]

          comes-there :
              (w : Walk) (ev : Event) (more : List Event) →
              EntersSo w ev more
              (walk_below enter p.program seating ks
              (goals_left p.program (goal s ts) (by_enter i cs))
              (traced (descends (Some x.case)
              (entered_walk e.k x (record w { values = vs; events = ev ∷ more })))))
          comes-there w ev more = elim (goes-there w ev more) [
            | inl wide ↦ inl wide
            | inr on ↦ inr (enters-to, last_fill, on)
          ]

        there-by :
            (w : Walk) (ev : Event) (more : List Event) →
            EntersSo w ev more
            (walk_below enter p.program seating ks
            (goals_left p.program (goal s ts) (by_enter i cs))
            (traced (descends (Some x.case)
            (entered_walk e.k x (record w { values = vs; events = ev ∷ more })))))
        there-by = comes-there gives

    -- a walk comes there with its steps still to come, unless a number leaves its bounds
    pub enter-node :
        (w : Walk) (ev : Event) (more : List Event) → Tells w.regions V →
        ((r : TrackedRegion) (m : ℤ) (j : ℕ) (zs : List ℤ) (z : ℤ) →
        V m ≡ Some (known_as j zs (Some z)) → tracked_at w.regions m ≡ Some r →
        ToldSo (RegionMet p V m j zs z (share m)) (enter w.regions r)) →
        EntersSo w ev more
        (walks_into seating enter p.program (tree (node (by_enter i cs) ks) no_trees)
        (goal s (running (first l a b) h0) ∷ [])
        (record w { values = vs; events = ev ∷ more }))
    enter-node w ev more tells told =
        let e = entry in
        let f = e.f in
        let n = value v.whole f.region in
        let zs = map (value v.whole) f.args in
        let z = value v.whole f.state in
        let is = exact e in
        let r = told-region w.regions V n f.kind zs z tells is in
        let w0 = record w { values = vs; events = ev ∷ more } in
        elim (enter-so enter p.program s i w0 f e.k r.0 (RegionMet p V n f.kind zs z (share n))
        e.is_fact e.is_type r.1 (told r.0 n f.kind zs z is r.1)) [
          | inl wide ↦
              inl (ap (walk_below enter p.program seating ks
              (goals_left p.program (goal s ts) (by_enter i cs))) wide
              ∙ below-wide enter p.program seating ks
              (goals_left p.program (goal s ts) (by_enter i cs)))
          | inr d ↦
              let same = ap (walk_below enter p.program seating ks
              (goals_left p.program (goal s ts) (by_enter i cs))) (d.1 ∙ ap traced d.2.1) in
              elim (there-by e d.2.0 d.2.2 w ev more) [
                | inl wide ↦ inl (same ∙ wide)
                | inr t ↦ inr (t.0, t.1, same ∙ t.2)
              ]
        ]
