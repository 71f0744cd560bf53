-- A walk creates a region: its case is taken, the region is made, and the fact is taken again.
use Rattle.std.proofs.Common.{◌≡◌, ◌⊎◌, inl, inr, ℕ, zero, suc, ◌+◌, ◌-◌, ◌<◌, ◌≤◌, ℤ, pos, ◌+ℤ◌, ◌<ℤ◌, Bool, List, [], ◌∷◌, ◌++◌, length, Some, refl, sym, ap, ◌∙◌, subst, arith}
use Rattle.std.specs.Prelude.{slice_get}
use Rattle.std.specs.List.{AllByRecursion}
use Rattle.std.proofs.lemmas.Int.{ints}
use Rattle.std.proofs.lemmas.Slice.Zip.{AllZip-long}
use Rattle.cap_lin.specs.Values.{Valuation, value}
use Rattle.cap_lin.specs.declared.row.Sort.TheVariants.{Int}
use Rattle.cap_syntax.specs.declared.place.Place.{Place}
use Rattle.cap_farkas.specs.declared.cert.Cert.{Cert}
use Rattle.cap_prog.specs.declared.assertion.Slot.{Slot}
use Rattle.cap_prog.specs.Program.{fact, Items, item}
use Rattle.cap_prog.specs.WellFormed.{RegionFits}
use Rattle.cap_goal_spec.specs.States.{PlainState, PlainTask, to_take, to_make, PlainGoal, goal, goals_of}
use Rattle.cap_goal_spec.specs.Choices.{PlainTree, by_absurd, by_create, by_made, node, PlainTrees, no_trees, tree}
use Rattle.cap_rules.specs.Making.{fresh, env_at}
use Rattle.cap_rules.specs.Rules.{creates}
use Rattle.cap_rules_nodes.specs.Nodes.{goals_left}
use Rattle.cap_machine_accounts.specs.Assertions.{NameValue, a_number}
use Rattle.cap_account_resources.specs.Parts.{known_as, Table}
use Rattle.cap_account_resources.proofs.Interference.{Holding, ArePartOf}
use Rattle.cap_account_resources.proofs.Lists.{all-more, join-assoc}
use Rattle.cap_account_states.proofs.Scopes.{length-join}
use Rattle.cap_account_resources.proofs.Room.{all_guards, with_known}
use Rattle.cap_account_resources.proofs.Stocks.{Stock, no_stock, guard_stock, both, stock-laws}
use Rattle.cap_account_resources.proofs.Tables.{extends-states, extends-trans}
use Rattle.cap_account_states.specs.Nodes.{Comes}
use Rattle.cap_account_states.proofs.Alike.{alike-same}
use Rattle.cap_account_states.proofs.Checked.{Checked, lone-child}
use Rattle.cap_account_states.proofs.Environments.{bound-over}
use Rattle.cap_account_states.proofs.Meets.{Usable, Old, solves}
use Rattle.cap_account_states.proofs.Naming.{values_in, values-mean}
use Rattle.cap_account_states.proofs.Terms.{vars-more}
use Rattle.cap_account_assertions.proofs.CaseStarts.{lim_with, case_state, case_job, fact_job, CaseStart, case-start}
use Rattle.cap_account_assertions.proofs.CaseTaken.{CaseTook, case-pending, made_state, made-follows, envs-stay, lim_made, start-again}
use Rattle.cap_account_assertions.proofs.Creating.{some, took-both}
use Rattle.cap_account_assertions.proofs.FreshRegions.{fresh_values}
use Rattle.cap_account_assertions.proofs.MadeRegions.{Pending, RegionMade, made-region, creation_of}
use Rattle.cap_account_assertions.proofs.NewRegions.{told-extends}
use Rattle.cap_account_assertions.proofs.TreeSizes.{trees_size}
use Rattle.cap_account_assertions.proofs.TakeSteps.{Job, tasks_of, with_items, remaining}
use Rattle.cap_owners_spec.specs.Traced.{Traced, traced, past_width, untold, ◌>>=◌, found, over, valuation, number_in}
use Rattle.cap_owners_spec.specs.Filling.{names_in}
use Rattle.cap_owners_spec.specs.Walks.{Taking, nothing_taken, Walk, Descent, on, with_region, Interpreting, pass_task, walk_below}
use Rattle.cap_owners_walks_laws.proofs.Values.Numbers.{valuation-number, number-is}
use Rattle.cap_owners_walks_laws.proofs.Values.More.{FitsSort, sorted-more, number-told}
use Rattle.cap_owners_walks_laws.proofs.Walks.Leading.{Left, node-leads}
use Rattle.cap_account_assertions.proofs.Follows.{Follows}
use Rattle.cap_account_assertions.proofs.Named.{set_to}
use Rattle.cap_goal_spec.specs.Environments.{term_of}
use Rattle.cap_owners_spec.specs.Track.{TrackedRegion}
use Rattle.cap_owners_walks_laws.proofs.Passes.Takes.{IsTracked}
use Rattle.cap_account.proofs.Stocked.{part_stock}
use Rattle.cap_owners_walks_laws.proofs.Passes.Rests.{walks_into, below-wide}
use Rattle.cap_owners_walks_laws.proofs.Passes.Parted.{none-held, left-cells, left-guards}
use Rattle.cap_owners_walks_laws.proofs.Passes.Names.{NamesSo, SharesBound, shares-more, names-in-so, names-told}
use Rattle.cap_owners_walks_laws.proofs.Passes.Meets.{met-items, told-items}
use Rattle.cap_owners_walks_laws.proofs.Passes.Takes.{AreNameTerms, more-term, AreBelow, TakesFrom, taking_from, Taking_into, IsTooWide, IsWide, wide-on, either-on, either-at, WalksTo, along-at, TakesTo, AlongLaw}
use Rattle.cap_owners_walks_laws.proofs.Passes.Steps.{node-to, node-wide, AtNode}
use Rattle.cap_owners_walks_laws.proofs.Passes.Plain.{Starting}
use Rattle.cap_owners_walks_laws.proofs.Passes.TakesAll.{CreateTakes}
use Rattle.cap_owners_walks_laws.proofs.Passes.Tracked.{all-tracked-on, tracked-on, zip-join, created-between, created-below}
use Rattle.cap_owners_walks_laws.proofs.Passes.Made.{made_as, is-tracked}

module _ (p : Checked) (regions : AllByRecursion (RegionFits p.program) p.program.regions)
    (ks : List ℕ) (size : ℕ) (law : AlongLaw p ks size) (T : Table) (next : ℤ) (lim : Holding)
    (j : Job) (vs : List NameValue) (s : PlainState) (c : Stock) (top : Taking) (case : ℕ)
    (place : Place) (n k : ℕ) (args : List Slot) (x : Slot) (more : Items) (kids : PlainTrees)
    (le : trees_size kids ≤ size)
    (f : Starting p ks T next lim j vs s c top (item (fact place n k args x) more)) (left : ℕ)
    (most : j.most ≡ suc left) where
  abbrev v : Valuation
  v = valuation vs

  abbrev of_fact : Job
  of_fact = with_items j (item (fact place n k args x) more)

  abbrev Here : List PlainGoal → Type 0
  Here =
      AtNode p ks T next j (fact place n k args x) more (by_create case) kids vs (valuation vs) s c
      top

  abbrev all : PlainTrees
  all = tree (node (by_create case) kids) no_trees

  abbrev Answer : Type 0
  Answer =
      IsTooWide p ks next of_fact all vs s top
      ⊎ TakesTo p ks T next of_fact all vs (valuation vs) s c top (suc size)

  abbrev new : List NameValue
  new = vs ++ a_number next ∷ []

  -- a walk gets the region's number, and is to take its case
  abbrev CreatePasses : Type 0
  CreatePasses =
      (enter : Interpreting) (w : Walk) (under : List Taking) →
      pass_task enter p.program s (by_create case)
      (to_take (item (fact place n k args x) more) j.env j.most j.statement) j.tasks
      (taking_from p ks next vs top under w)
      ≡ on 0 (taking_from p ks (next +ℤ pos 1) new nothing_taken (top ∷ under) w)

  module _ (a : CaseStart p.program ks T next lim of_fact (valuation vs) s c k case left
      (fact place n k args x) more Here) where
    abbrev at_case : PlainState
    at_case = case_state s a.rows a.guards a.env

    abbrev again : Job
    again = fact_job of_fact (fact place n k args x) more left

    abbrev of_case : Job
    of_case = case_job of_fact s a.y a.z k case left (tasks_of again)

    abbrev held : Stock
    held = both p.program c (guard_stock next (all_guards p.program k))

    size-same : length vs ≡ length s.sorts
    size-same = AllZip-long FitsSort s.sorts vs f.sorted

    case-terms : AreNameTerms (s.sorts ++ Int ∷ []) (env_at at_case (length s.envs))
    case-terms i t e =
        let o = bound-over (Usable ks (s.sorts ++ Int ∷ []) Int) a.env a.env_over i t
        (ap (λ u. term_of u i) (sym a.env_is) ∙ e) in
        inr (vars-more (Usable ks (s.sorts ++ Int ∷ []) Int)
        (λ y. slice_get (s.sorts ++ Int ∷ []) y ≡ Some Int) (λ y u. u.0) t.parts o)

    from-case :
        TakesFrom p ks T (next +ℤ pos 1) (lim_with p.program lim next k) of_case new
        (fresh_values s (valuation vs) next) at_case held nothing_taken.part
    from-case = record {
      start = a.start;
      valued =
          ap (λ i. fresh_at v i) (sym size-same) ∙ sym (valuation-number vs next);
      sorted = sorted-more s.sorts vs Int (a_number next) f.sorted tt;
      terms = case-terms;
      heap = f.heap;
      cells = λ b z.
          let e = ap (λ (q : Stock). q.cells b z) none-held in
          let l = f.cells b z in omega (arith, e, l);
      guards =
          subst (λ q. ArePartOf p.program q.guards (lim_with p.program lim next k))
          (sym (ap (λ q. both p.program q held) none-held
          ∙ (stock-laws p.program).zero_left held)) a.start.within;
    }
      where
        fresh_at : Valuation → ℕ → Valuation
        fresh_at w i = set_to w i next

    -- once the case is taken
    module _ (t : TakesTo p ks T (next +ℤ pos 1) of_case kids new
        (fresh_values s (valuation vs) next) at_case held nothing_taken size) where
      abbrev t0 :
          CaseTook p ks T next lim of_fact (valuation vs) s c k case left (fact place n k args x)
          more Here a size
      t0 = t.took

      abbrev here : ℕ
      here = length s.envs

      abbrev some_left : 0 < j.most
      some_left = some p ks size T next lim of_fact v s c (fact place n k args x) more refl k case
          left most f.start

      abbrev make : PlainTask
      make = to_make k case (length s.envs) (fresh s) j.statement

      abbrev pending :
          Pending p.program ks t0.U next t0.w t0.after t0.left t0.given a.y a.z (length s.envs)
          (fresh s)
      pending = case-pending p ks T next lim of_fact v s c k case left (fact place n k args x) more
          Here a size f.start some_left t0

      -- the walk is at the region that is to be made
      abbrev at_make : Walk → List Taking → Walk
      at_make w under = record w {
        values = t.values;
        next = t0.later;
        taken = t.taken ∷ top ∷ under;
        regions = w.regions ++ t.made;
      }

      module _ (cs : List Cert) (below : PlainTrees)
          (small : trees_size below ≤ size)
          (hd : p.N (node (by_made cs) below) t0.after (make ∷ tasks_of again)) where
        abbrev There : List PlainGoal → Type 0
        There = Left p (by_made cs) below (goal t0.after (make ∷ tasks_of again))

        abbrev Made : Type 0
        Made =
            RegionMade p.program ks t0.U next t0.w t0.after t0.left t0.given k case (length s.envs)
            There (tasks_of again)

        module _ (m : Made) (names : List NameValue)
            (so : NamesSo of_case.scope t.values
            (env_at t0.after (length s.envs)) names) (b z : ℤ)
            (number : number_in t.values (fresh s) ≡ traced b)
            (state : number_in names a.z.state ≡ traced z) where
          abbrev region : TrackedRegion
          region = made_as b k a.y.params case names z t.taken

          abbrev ends : PlainState
          ends = made_state p ks T next lim of_fact v s c k case left (fact place n k args x) more
              Here a size f.start some_left t0 (tasks_of again) There m

          number-next : b ≡ next
          number-next =
              number-is t.values (fresh s) b number
              ∙ ap (λ (u : Valuation). value u.whole (fresh s)) (sym t.valued)
              ∙ pending.number

          names-same : values_in t0.w (env_at t0.after (length s.envs)) ≡ valuation names
          names-same = ap (λ u. values_in u (env_at t0.after (length s.envs))) t.valued ∙ so.same

          gives : t0.given ≡ part_stock t.taken.part
          gives =
              sym (t.part
              ∙ ap (λ q. both p.program q t0.given) none-held
              ∙ (stock-laws p.program).zero_left t0.given)

          sized : length names ≡ a.y.params + length a.z.names
          sized = so.size ∙ t0.follows.size ∙ ap length a.env_is ∙ a.size

          under-one : (values_in t0.w (env_at t0.after (length s.envs))).fraction.under ≡ over - 1
          under-one = ap (λ (u : Valuation). u.fraction.under) t.valued

          tracked :
              IsTracked p.program
              (with_known t0.U next (known_as k m.args (Some m.state)))
              (creation_of next k m.args m.state t0.given case (env_at t0.after (length s.envs)))
              region
          tracked =
              let w = t0.w in
              let env = env_at t0.after (length s.envs) in
              let X = values_in w env in
              let mean = values-mean of_case.scope w env in
              let d = t0.draws w (alike-same (Old t0.after) w) X mean no_stock in
              let met = t.met w (alike-same (Old t0.after) w) X mean no_stock under-one in
              is-tracked p.program ks t0.U next w t0.after t0.left t0.given a.y a.z k case
              (length s.envs) (fresh s) (tasks_of again) There a.is_type a.is_case pending m names
              names-same so.size so.fits sized t.taken gives b number-next z
              (number-is names a.z.state z state) d (met.0 ∙ sym t.more_wildcards)
              (met.1 ∙ sym t.more_facts)

          -- the fact is taken again, from here
          abbrev knows : Table
          knows = with_known t0.U next (known_as k m.args (Some m.state))

          abbrev lim_then : Holding
          lim_then = lim_made p ks T next lim of_fact v s c k case left (fact place n k args x) more
              Here a size f.start some_left t0 (tasks_of again) There m

          stays :
              Follows of_fact.scope of_fact.env v s t0.w ends
          stays = made-follows p ks T next lim of_fact v s c k case left (fact place n k args x)
              more Here a size f.start some_left t0 (tasks_of again) There m

          same-env : env_at ends j.env ≡ env_at s j.env
          same-env =
              envs-stay p ks T next lim of_fact v s c k case left (fact place n k args x) more Here
              a size f.start some_left t0 (tasks_of again) There m j.env f.start.ready.there

          from-again :
              TakesFrom p ks knows t0.later lim_then again t.values t0.w ends t0.left top.part
          from-again = record {
            start = start-again p ks T next lim of_fact v s c k case left (fact place n k args x)
                more Here a size f.start some_left t0 (tasks_of again) There m refl;
            valued = t.valued;
            sorted = t.sorted;
            terms = λ i u e.
                more-term s.sorts t0.after.sorts stays.goes_on.sorts stays.goes_on.count u
                (f.terms i u (ap (λ es. term_of es i) (sym same-env) ∙ e));
            heap = f.heap;
            cells = λ b z.
                let l = left-cells p.program t0.new t0.left t0.given c
                (guard_stock next (all_guards p.program k)) t0.budget b z in
                let h = f.cells b z in omega (arith, l, h);
            guards =
                left-guards p.program t0.new t0.left t0.given c
                (guard_stock next (all_guards p.program k)) t0.budget (part_stock top.part) lim
                f.guards;
          }

          -- the regions of a walk then
          in-place :
              (w : Walk) → AreBelow next w.regions →
              with_region region (w.regions ++ t.made) ≡ w.regions ++ region ∷ t.made
          in-place w low =
              created-between p.program t0.U next t0.later t0.new t0.made.numbered t0.created
              t0.are_created t.made t.are_made region number-next w.regions low

          then-below :
              (w : Walk) → AreBelow next w.regions →
              AreBelow t0.later (w.regions ++ region ∷ t.made)
          then-below w low =
              created-below p.program t0.U next t0.later t0.new t0.made.numbered t0.created
              t0.are_created t.made t.are_made region number-next w.regions low

          -- the walk of all
          abbrev Leads : Walk → List Taking → Bool → Interpreting → Type 0
          Leads w under seating enter =
              Taking_into p ks seating enter of_fact all s (taking_from p ks next vs top under w)
              ≡ Taking_into p ks seating enter again below ends
              (taking_from p ks t0.later t.values top under
              (record w { regions = w.regions ++ region ∷ t.made }))

          module _
              (leads :
              (seating : Bool) (enter : Interpreting) (w : Walk) (under : List Taking) →
              AreBelow next w.regions →
              Leads w under seating enter) where
            create-to :
                (few : ℕ) → few ≤ size →
                (IsTooWide p ks t0.later again below t.values ends top
                ⊎ TakesTo p ks knows t0.later again below t.values t0.w ends t0.left top few) →
                Answer
            create-to few small (inl wide) =
                inl (λ seating enter w under low.
                leads seating enter w under low
                ∙ wide seating enter (record w { regions = w.regions ++ region ∷ t.made }) under
                (then-below w low))
            create-to few small (inr u) =
                let pp = p.program in
                let kept = extends-states knows u.took.U u.took.made.extends in
                let first = extends-states t0.U u.took.U
                (extends-trans t0.U knows u.took.U
                (told-extends t0.U next (known_as k m.args (Some m.state)) pending.absent)
                u.took.made.extends) in
                let begun = t.counted in
                let later = u.counted in
                let count = length-join t.made u.made in
                let counted : u.took.later ≡ next +ℤ pos (length (region ∷ (t.made ++ u.made))) =
                omega (arith, ints, begun, later, count) in
                let all_walks : WalksTo p ks next of_fact all vs s top u.took.children u.took.after
                u.values u.took.later u.taken (region ∷ (t.made ++ u.made)) = λ seating enter w under low.
                leads seating enter w under low
                ∙ u.walks seating enter (record w { regions = w.regions ++ region ∷ t.made }) under
                (then-below w low)
                ∙ ap (λ rs. walks_into seating enter pp u.took.children
                (goals_of u.took.after j.tasks) (record w {
                  values = u.values;
                  next = u.took.later;
                  taken = u.taken ∷ under;
                  regions = rs;
                })) (sym (join-assoc w.regions (region ∷ t.made) u.made)) in
                inr (record {
                  took = took-both p ks size T next lim of_fact v s c (fact place n k args x) more
                      refl k case left most f.start Here a t0 There m few small u.took;
                  values = u.values;
                  valued = u.valued;
                  sorted = u.sorted;
                  terms = u.terms;
                  taken = u.taken;
                  names = λ some. u.names (λ e. absurd (cc));
                  have = λ some. u.have (λ e. absurd (cc));
                  binds = u.binds;
                  grows = (
                    a_number next ∷ (t.grows.0 ++ u.grows.0),
                    u.grows.1
                        ∙ ap (λ us. us ++ u.grows.0) t.grows.1
                        ∙ sym (join-assoc new t.grows.0 u.grows.0)
                        ∙ sym (join-assoc vs (a_number next ∷ []) (t.grows.0 ++ u.grows.0)),
                  );
                  shaped = λ b.
                      let env = env_at s j.env in
                      let grown = shares-more j.scope new t.grows.0 env
                      (shares-more j.scope vs (a_number next ∷ []) env b) in
                      let k = u.shaped (subst (SharesBound j.scope t.values) (sym same-env)
                      (subst (λ us. SharesBound j.scope us env) (sym t.grows.1) grown)) in
                      (k.0, λ some. k.1 (λ e. absurd (cc)));
                  wildcards = u.wildcards;
                  facts = u.facts;
                  more_wildcards = u.more_wildcards;
                  more_facts = u.more_facts;
                  met = λ y l b q r under. (
                    met-items pp u.took.U b (item (fact place n k args x) more)
                        (item (fact place n k args x) more) (both pp u.took.given r) r (sym refl)
                        (u.took.draws y l b q r)
                        ∙ (u.met y l b q r under).0,
                    told-items pp u.took.U b (item (fact place n k args x) more)
                        (item (fact place n k args x) more) (both pp u.took.given r) r (sym refl)
                        (u.took.draws y l b q r)
                        ∙ (u.met y l b q r under).1,
                  );
                  part = u.part;
                  made = region ∷ (t.made ++ u.made);
                  are_made = (
                    tracked-on pp knows u.took.U kept
                        (creation_of next k m.args m.state t0.given case
                        (env_at t0.after (length s.envs))) region tracked,
                    zip-join (IsTracked pp u.took.U) t0.created u.took.created t.made u.made
                        (all-tracked-on pp t0.U u.took.U first t0.created t.made t.are_made)
                        u.are_made,
                  );
                  counted = counted;
                  along =
                      along-at p ks next u.took.later of_fact all vs s top u.took.children
                      u.took.after u.values u.taken (region ∷ (t.made ++ u.made)) some_left counted
                      all_walks;
                  walks = all_walks;
                })

        -- with the region in its place
        abbrev made_walk : Walk → List Taking → ℕ → ℤ → List NameValue → ℤ → Walk
        made_walk w under params b names z = record w {
          values = t.values;
          next = t0.later;
          taken = top ∷ under;
          regions = with_region (made_as b k params case names z t.taken) (w.regions ++ t.made);
        }

        -- by what is computed at the region
        abbrev MadePass : Walk → List Taking → Interpreting → Traced Descent
        MadePass w under enter =
            pass_task enter p.program t0.after (by_made cs) make (tasks_of again) (at_make w under)

        made-by :
            (enter : Interpreting) (w : Walk) (under : List Taking) (o : Traced ℤ)
            (q : Traced (List NameValue)) → number_in t.values (fresh s) ≡ o →
            names_in t.values (env_at t0.after (length s.envs)) ≡ q →
            MadePass w under enter
            ≡ (o >>= λ b. q >>= λ names. number_in names a.z.state >>= λ z.
            on 0 (made_walk w under a.y.params b names z))
        made-by enter w under o q eo eq =
            ap (λ h. found h >>= λ y. found (slice_get y.cases case) >>= λ x.
            number_in t.values (fresh s) >>= λ b.
            names_in t.values (env_at t0.after (length s.envs)) >>= λ names.
            number_in names x.state >>= λ z. on 0 (made_walk w under y.params b names z)) a.is_type
            ∙ ap (λ h. found h >>= λ x.
            number_in t.values (fresh s) >>= λ b.
            names_in t.values (env_at t0.after (length s.envs)) >>= λ names.
            number_in names x.state >>= λ z. on 0 (made_walk w under a.y.params b names z))
            a.is_case
            ∙ (λ i. eo i >>= λ b. eq i >>= λ names. number_in names a.z.state >>= λ z.
            on 0 (made_walk w under a.y.params b names z))

        module _ (d : PlainTree) (tree_is : t0.children ≡ tree d no_trees)
            (node_is : d ≡ node (by_made cs) below)
            (passes : CreatePasses) where
          -- the walk to the region that is to be made
          to-make :
              (seating : Bool) (enter : Interpreting) (w : Walk) (under : List Taking) →
              AreBelow next w.regions →
              Taking_into p ks seating enter of_fact all s (taking_from p ks next vs top under w)
              ≡ walk_below enter p.program seating below
              (goals_left p.program (goal t0.after (make ∷ tasks_of again)) (by_made cs))
              (MadePass w under enter)
          to-make seating enter w under low =
              node-to p ks T next seating enter (fact place n k args x) more j (by_create case) kids s
              (goals_of at_case (tasks_of of_case)) (taking_from p ks next vs top under w)
              (taking_from p ks (next +ℤ pos 1) new nothing_taken (top ∷ under) w) a.comes.0
              (passes enter w under)
              ∙ t.walks seating enter w (top ∷ under)
              (all-more (λ r. r.owned.region.number <ℤ next)
              (λ r. r.owned.region.number <ℤ (next +ℤ pos 1)) (λ r l. omega (arith, ints, l))
              w.regions low)
              ∙ ap (λ ts. walks_into seating enter p.program ts (goals_of t0.after (make ∷ tasks_of again))
              (at_make w under)) (tree_is ∙ ap (λ d. tree d no_trees) node_is)

          wide-at :
              ((enter : Interpreting) (w : Walk) (under : List Taking) →
              MadePass w under enter ≡ past_width) → Answer
          wide-at h =
              inl (λ seating enter w under low.
              let gs = goals_left p.program (goal t0.after (make ∷ tasks_of again)) (by_made cs) in
              to-make seating enter w under low
              ∙ ap (walk_below enter p.program seating below gs) (h enter w under)
              ∙ below-wide enter p.program seating below gs)

          made-of : Made
          made-of =
              made-region p.program ks t0.U next t0.w t0.after t0.left t0.given a.y a.z k case
              (length s.envs) (fresh s) (tasks_of again) There a.is_type a.is_case pending
              (node-leads p (by_made cs) below t0.after (make ∷ tasks_of again) hd)

          -- the region has these numbers
          made-at :
              (b z : ℤ) (names : List NameValue) → number_in t.values (fresh s) ≡ traced b →
              names_in t.values (env_at t0.after (length s.envs)) ≡ traced names →
              number_in names a.z.state ≡ traced z → Answer
          made-at b z names eb en ez =
              let m = made-of in
              let so = names-in-so t.values t0.after.sorts t.sorted ks of_case.scope
              (env_at t0.after (length s.envs)) names t0.ready.placed t.terms en in
              create-to m names so b z eb ez
              (λ seating enter w under low.
              to-make seating enter w under low
              ∙ (λ i. walk_below enter p.program seating below (m.comes.0 i)
              ((made-by enter w under (traced b) (traced names) eb en
              ∙ ap (λ o. o >>= λ z. on 0 (made_walk w under a.y.params b names z)) ez) i))
              ∙ ap (λ rs. walks_into seating enter p.program below
              (goals_of (ends m names so b z eb ez) (tasks_of again)) (record w {
                values = t.values;
                next = t0.later;
                taken = top ∷ under;
                regions = rs;
              })) (in-place m names so b z eb ez w low))
              size (omega arith)
              (either-on p ks t0.later again below t.values (ends m names so b z eb ez) top
              (law (knows m names so b z eb ez) t0.later (lim_then m names so b z eb ez) again below
              t.values t0.w (ends m names so b z eb ez) t0.left top small m.comes.1
              (from-again m names so b z eb ez)))

          made-any :
              (o : Traced ℤ) (q : Traced (List NameValue)) → number_in t.values (fresh s) ≡ o →
              names_in t.values (env_at t0.after (length s.envs)) ≡ q → Answer
          made-any untold q eo eq = absurd (number-told t.values (fresh s) eo)
          made-any past_width q eo eq =
              wide-at (λ enter w under. made-by enter w under past_width q eo eq)
          made-any (traced b) untold eo eq =
              absurd (names-told t.values t0.after.sorts t.sorted
              (env_at t0.after (length s.envs)) eq)
          made-any (traced b) past_width eo eq =
              wide-at (λ enter w under. made-by enter w under (traced b) past_width eo eq)
          made-any (traced b) (traced names) eo eq = by (number_in names a.z.state) refl
            where
              by : (q : Traced ℤ) → number_in names a.z.state ≡ q → Answer
              by untold ez = absurd (number-told names a.z.state ez)
              by past_width ez =
                  wide-at (λ enter w under.
                  made-by enter w under (traced b) (traced names) eo eq
                  ∙ ap (λ o. o >>= λ z. on 0 (made_walk w under a.y.params b names z)) ez)
              by (traced z) ez = made-at b z names eo eq ez

          made-answer : Answer
          made-answer =
              made-any (number_in t.values (fresh s))
              (names_in t.values (env_at t0.after (length s.envs))) refl refl

      -- by the node at which it is to be made
      make-node :
          CreatePasses →
          (d : PlainTree) → p.N d t0.after (make ∷ tasks_of again) →
          t0.children ≡ tree d no_trees → trees_size (tree d no_trees) ≤ size → Answer
      make-node passes (node (by_absurd y) below) hd e small =
          absurd ((p.step hd).0.0 t0.w (solves ks t0.w t0.after t0.ready.grounded.meets))
      make-node passes (node (by_made cs) below) hd e small =
          made-answer cs below (omega (arith, small)) hd (node (by_made cs) below) e refl passes
      make-node passes d hd e small = absurd (p.step hd).1

      case-took :
          CreatePasses → Answer
      case-took passes =
          let d = lone-child p.N t0.children t0.after (make ∷ tasks_of again) t0.goes in
          make-node passes d.0 d.1 d.2 (subst (λ ts. trees_size ts ≤ size) d.2 t0.no_larger)

    case-answer :
        CreatePasses → Answer
    case-answer passes =
        elim (law T (next +ℤ pos 1) (lim_with p.program lim next k) of_case kids new
        (fresh_values s (valuation vs) next) at_case held nothing_taken le a.comes.1 from-case) [
          | inl wide ↦ inl (λ seating enter w under low.
              let too_wide = wide-on p ks (next +ℤ pos 1) of_case kids new at_case nothing_taken
              wide in
              node-to p ks T next seating enter (fact place n k args x) more j (by_create case) kids s
              (goals_of at_case (tasks_of of_case)) (taking_from p ks next vs top under w)
              (taking_from p ks (next +ℤ pos 1) new nothing_taken (top ∷ under) w) a.comes.0
              (passes enter w under)
              ∙ too_wide seating enter w (top ∷ under)
              (all-more (λ r. r.owned.region.number <ℤ next)
              (λ r. r.owned.region.number <ℤ (next +ℤ pos 1)) (λ r l. omega (arith, ints, l))
              w.regions low))
          | inr t ↦ case-took t passes
        ]

  -- the rule applies, and the names' values come to something
  create-here :
      Comes (creates p.program s case n k args x (fact place n k args x) (remaining of_fact more)
      (suc left)) Here → Answer
  create-here h = by (names_in vs (env_at s j.env)) refl
    where
      at :
          (enter : Interpreting) (w : Walk) (under : List Taking)
          (o : Traced (List NameValue)) → names_in vs (env_at s j.env) ≡ o →
          pass_task enter p.program s (by_create case)
          (to_take (item (fact place n k args x) more) j.env j.most j.statement) j.tasks
          (taking_from p ks next vs top under w)
          ≡ ((o >>= λ ns. traced (record top { fill = record top.fill { names = ns } })) >>= λ t.
          on 0 (taking_from p ks (next +ℤ pos 1) new nothing_taken (top ∷ under) w))
      at enter w under o q =
          ap (λ o. (o >>= λ ns. traced (record top { fill = record top.fill { names = ns } }))
          >>= λ t. on 0 (taking_from p ks (next +ℤ pos 1) new nothing_taken (top ∷ under) w)) q

      by : (o : Traced (List NameValue)) → names_in vs (env_at s j.env) ≡ o → Answer
      by untold q = absurd (names-told vs s.sorts f.sorted (env_at s j.env) q)
      by past_width q =
          inl (λ seating enter w under low.
          node-wide p ks T next seating enter (fact place n k args x) more j (by_create case) kids s
          (taking_from p ks next vs top under w) (at enter w under past_width q))
      by (traced ns) q =
          case-answer
          (case-start p.program regions ks T next lim of_fact v s c case n k left args x
          (fact place n k args x) more Here h f.start (omega (arith, most)) f.start.fits.0.1)
          (λ enter w under. at enter w under (traced ns) q)

pub create-takes :
    (p : Checked) → AllByRecursion (RegionFits p.program) p.program.regions → (ks : List ℕ) →
    CreateTakes p ks
create-takes p regions ks size law T next lim j vs s c top case place n k args x more kids le f h =
    by j.most refl
    (node-leads p (by_create case) kids s
    (tasks_of (with_items j (item (fact place n k args x) more))) h)
  where
    by :
        (left : ℕ) → j.most ≡ left →
        Comes (creates p.program s case n k args x (fact place n k args x)
        (remaining (with_items j (item (fact place n k args x) more)) more) left)
        (AtNode p ks T next j (fact place n k args x) more (by_create case) kids vs (valuation vs)
        s c top) →
        IsWide p ks next (with_items j (item (fact place n k args x) more))
        (tree (node (by_create case) kids) no_trees) vs s top
        ⊎ TakesTo p ks T next (with_items j (item (fact place n k args x) more))
        (tree (node (by_create case) kids) no_trees) vs (valuation vs) s c top (suc size)
    by zero e h = absurd h.1
    by (suc left) e h =
        either-at p ks next (with_items j (item (fact place n k args x) more))
        (tree (node (by_create case) kids) no_trees) vs s top (omega (arith, e))
        (create-here p regions ks size law T next lim j vs s c top case place n k args x more kids le
        f left e h)
