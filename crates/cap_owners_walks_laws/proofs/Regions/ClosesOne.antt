-- One open region is closed along a walk, by whichever tree there is.
use Rattle.std.proofs.Common.{◌≡◌, ◌⊎◌, inl, inr, ℕ, zero, suc, ℤ, ◌<ℤ◌, Bool, true, List, [], ◌∷◌, ◌++◌, map, length, Some, None, refl, sym, ap, ◌∙◌, subst, arith}
use Rattle.std.specs.Prelude.{slice_get, remove}
use Rattle.std.specs.List.{AllByRecursion}
use Rattle.cap_lin.specs.Values.{Valuation, value}
use Rattle.cap_lin.specs.declared.row.Sort.TheVariants.{Int}
use Rattle.cap_farkas.specs.declared.cert.Cert.{Cert}
use Rattle.cap_prog.specs.Scopes.{region_scope}
use Rattle.cap_prog.specs.WellFormed.{IsWellFormed}
use Rattle.cap_goal_spec.specs.States.{PlainEnv, PlainState, PlainTask, to_close, to_shift, goal, goals_of}
use Rattle.cap_goal_spec.specs.Environments.{region_env}
use Rattle.cap_goal_spec.specs.Choices.{PlainTree, node, PlainTrees, no_trees, tree, by_absurd, by_pick, by_shift}
use Rattle.cap_rules.specs.Making.{env_at}
use Rattle.cap_rules_nodes.specs.Nodes.{goals_left}
use Rattle.cap_machine.specs.Machine.{Heap}
use Rattle.cap_machine_accounts.specs.Assertions.{NameValue, AreWhole, CompHolds}
use Rattle.cap_account_resources.specs.Parts.{known_as, Table}
use Rattle.cap_account_resources.proofs.Lists.{some-same, none-some, Among, map-length, all-more, all-unmap, map-join, get-or-push}
use Rattle.cap_account_resources.proofs.Owners.{Owner, numbers_of, Numbered, no-cells-in}
use Rattle.cap_account_resources.proofs.Room.{with_known}
use Rattle.cap_account_resources.proofs.Stocks.{Stock, no_stock}
use Rattle.cap_account_states.proofs.Alike.{alike-same}
use Rattle.cap_account_states.proofs.Attempts.{env_added}
use Rattle.cap_account_states.proofs.Checked.{Checked, lone-child}
use Rattle.cap_account_states.proofs.Facts.{facts-same}
use Rattle.cap_account_states.proofs.Meets.{Usable, Old, solves}
use Rattle.cap_account_states.proofs.Naming.{values_in, values-mean}
use Rattle.cap_account_states.proofs.Scopes.{length-join}
use Rattle.cap_account_assertions.proofs.Laws.{IsOwner, TakenLaw}
use Rattle.cap_account_assertions.proofs.TakeSteps.{Job}
use Rattle.cap_account_assertions.proofs.TreeSizes.{trees_size}
use Rattle.cap_account_steps.proofs.CaseTaken.{CaseTaken}
use Rattle.cap_account_steps.proofs.ClosedTables.{closed_table, closed-states}
use Rattle.cap_account_steps.proofs.RegionClosed.{RegionClosed}
use Rattle.cap_account_steps.proofs.SettledTables.{settled-fits, settled-listed}
use Rattle.cap_account_steps.proofs.SettledTwice.{settles-for}
use Rattle.cap_account_steps.proofs.Shifting.{Picked, take_and_shift}
use Rattle.cap_account_steps.proofs.StillOpen.{length-remove, regions-later}
use Rattle.cap_account_steps.proofs.Worlds.{regions_of, AllOver, IsStillOpen, SettlesBy}
use Rattle.cap_owners_spec.specs.Traced.{Traced, traced, past_width, untold, valuation}
use Rattle.cap_owners_spec.specs.Track.{TrackedRegion, tracked_at}
use Rattle.cap_owners_spec.specs.Filling.{names_in}
use Rattle.cap_owners_spec.specs.Walks.{Walk, Interpreting, nothing_taken, with_region, walk_below}
use Rattle.cap_owners_walks_laws.proofs.Passes.Names.{NamesSo, names-in-so, names-told}
use Rattle.cap_owners_walks_laws.proofs.Passes.Rests.{walks_into, below-wide}
use Rattle.cap_owners_walks_laws.proofs.Passes.Takes.{owner_of, AreBelow, IsTooWide, TakesTo}
use Rattle.cap_owners_walks_laws.proofs.Passes.Takings.{taken-part}
use Rattle.cap_owners_walks_laws.proofs.Regions.Closes.{Closes, ClosesTo, ClosesWide, ClosesLaw}
use Rattle.cap_owners_walks_laws.proofs.Regions.Landing.{Lands}
use Rattle.cap_owners_walks_laws.proofs.Regions.Open.{TellsOpen, numbers_in, AreAscending, open-made, open-shut, put-there, tracked-first, made-ascends, made-low}
use Rattle.cap_owners_walks_laws.proofs.Regions.OwnedSo.{OwnedSo, all-owned-on, all-owned, owners-tracked, owned-shut}
use Rattle.cap_owners_walks_laws.proofs.Regions.Picks.{on-goals, landed, job, takes-case, taken_here}
use Rattle.cap_owners_walks_laws.proofs.Regions.Says.{SaysOr, taken-says}
use Rattle.cap_owners_walks_laws.proofs.Regions.Shifts.{shut_region, shut_walk, shift-so, shift-wide}
use Rattle.cap_owners_walks_laws.proofs.Regions.Shutting as shutting
use Rattle.cap_owners_walks_laws.proofs.Regions.Telling.{tracked-number}

-- what is in a list is among it
among-at :
    {A : Type 0} (g : A → ℤ) (xs : List A) (i : ℕ) (x : A) → slice_get xs i ≡ Some x →
    Among (g x) (map g xs)
among-at g [] i x e = absurd (none-some e)
among-at g (y ∷ xs) zero x e = inl (ap g (some-same y x e))
among-at g (y ∷ xs) (suc i) x e = inr (among-at g xs i x e)

module _ (p : Checked) (wf : IsWellFormed p.program) (law : TakenLaw p) (heap : Heap) (V : Table)
    (part : Stock) (W : Table) (ks : List ℕ) (vs : List NameValue) (s : PlainState) (held : Stock)
    (rs : List TrackedRegion) (next : ℤ) (c : Closes p heap V part W ks vs s held rs next)
    (n : ℕ) (ts : List PlainTask) where
  abbrev v : Valuation
  v = valuation vs

  abbrev Answer : PlainTrees → Type 0
  Answer trees =
      ClosesWide p heap V part vs s rs next n ts trees
      ⊎ ClosesTo p heap V part W ks vs s held rs next n ts trees

  module _ (o cn mv : ℕ) (kids : PlainTrees)
      (hd : p.N (node (by_pick o cn mv) kids) s (to_close true n ∷ ts))
      (q : Picked p.program (Lands p.N (goals_left p.program
      (goal s (to_close true n ∷ ts)) (by_pick o cn mv))) ks s o cn mv n true ts kids) where
    abbrev all : PlainTrees
    all = tree (node (by_pick o cn mv) kids) no_trees

    abbrev job_here : Job
    job_here = job p wf law heap V part W ks vs s held rs next c n ts o cn mv kids hd q

    -- a walk begins to take the case
    to-take :
        (seating : Bool) (enter : Interpreting) (w : Walk) →
        walks_into seating enter p.program (tree (node (by_pick o cn mv) kids) no_trees)
        (goals_of s (to_close true n ∷ ts)) (record w { values = vs; next = next; regions = rs })
        ≡ walks_into seating enter p.program kids
        (goals_of (env_added s (region_env q.f q.names)) (take_and_shift s q.x o cn mv n true ts))
        (record w { values = vs; next = next; regions = rs; taken = nothing_taken ∷ w.taken })
    to-take seating enter w =
        ap (λ gs. walks_into seating enter p.program kids gs
        (record w { values = vs; next = next; regions = rs; taken = nothing_taken ∷ w.taken }))
        (landed p wf law heap V part W ks vs s held rs next c n ts o cn mv kids hd q).0

    low : AreBelow next rs
    low = all-unmap (λ (r : TrackedRegion). r.owned.region.number) (λ m. m <ℤ next) rs c.below

    too-wide :
        IsTooWide p ks next job_here kids vs (env_added s (region_env q.f q.names)) nothing_taken →
        Answer all
    too-wide wide =
        inl (λ seating enter w.
        to-take seating enter w ∙ wide seating enter (record w { regions = rs }) w.taken low)

    module _ (t : TakesTo p ks W next job_here kids vs (valuation vs)
        (env_added s (region_env q.f q.names)) held nothing_taken (trees_size kids)) where
      abbrev T : Table
      T = t.took.U

      abbrev w : Valuation
      w = valuation t.values

      abbrev t1 : PlainState
      t1 = t.took.after

      abbrev e : ℕ
      e = length s.envs

      abbrev env : PlainEnv
      env = env_at t.took.after (length s.envs)

      abbrev ct : CaseTaken p V W part ks (valuation vs) s held n ts
      ct = taken_here p wf law heap V part W ks vs s held rs next c n ts o cn mv kids hd q t

      abbrev tasks : List PlainTask
      tasks = to_shift o cn mv (length s.envs) n ∷ ts

      child :
          (d : PlainTree) × p.N d t.took.after tasks × (t.took.children ≡ tree d no_trees)
      child = lone-child p.N t.took.children t.took.after tasks t.took.goes

      abbrev at_shift : Walk → Walk
      at_shift w = record w {
        values = t.values;
        next = t.took.later;
        taken = t.taken ∷ w.taken;
        regions = rs ++ t.made;
      }

      to-shift :
          (seating : Bool) (enter : Interpreting) (w : Walk) →
          walks_into seating enter p.program all (goals_of s (to_close true n ∷ ts))
          (record w { values = vs; next = next; regions = rs })
          ≡ walks_into seating enter p.program (tree child.0 no_trees)
          (goal t.took.after tasks ∷ []) (at_shift w)
      to-shift seating enter w =
          to-take seating enter w
          ∙ t.walks seating enter (record w { regions = rs }) w.taken low
          ∙ (λ i. walks_into seating enter p.program (child.2 i) (goal t1 tasks ∷ []) (at_shift w))

      -- ---- the region as it was tracked

      abbrev n0 : ℤ
      n0 = value (valuation vs).whole q.f.region

      was :
          (r : TrackedRegion) × (tracked_at rs (value (valuation vs).whole q.f.region) ≡ Some r)
          × (W (value (valuation vs).whole q.f.region)
          ≡ Some (known_as r.owned.region.kind r.owned.region.args None))
      was =
          c.tells.opened n0
          (among-at (λ f. value v.whole f.region) s.opened o q.f q.is_opened)

      is_f : slice_get t.took.after.opened o ≡ Some q.f
      is_f = ap (λ fs. slice_get fs o) ct.opened ∙ q.is_opened

      there :
          tracked_at (rs ++ t.made) (value (valuation t.values).whole q.f.region) ≡ Some was.0
      there = ap (tracked_at (rs ++ t.made)) ct.same_region
          ∙ tracked-first rs t.made n0 was.0 was.1

      is_number : was.0.owned.region.number ≡ value (valuation vs).whole q.f.region
      is_number = tracked-number rs n0 was.0 was.1

      -- which regions are open
      regions-same :
          regions_of (valuation vs) s.opened ≡ regions_of (valuation t.values) t.took.after.opened
      regions-same =
          let still = IsStillOpen ks v V W s in
          sym (ap (regions_of w) ct.opened
          ∙ regions-later p.program ks ks v w s t1 ct.later s.opened
          (all-more still (AllOver (Usable ks s.sorts Int)) (λ f h. h.0) s.opened
          c.closing.opened))

      says-now :
          AllByRecursion (SaysOr (valuation t.values) t.took.U
          (regions_of (valuation t.values) t.took.after.opened)) t.took.after.facts
      says-now =
          let start = env_added s (region_env q.f q.names) in
          subst (λ ns. AllByRecursion (SaysOr w T ns) t1.facts) regions-same
          (taken-says ks W T v w start t1 (regions_of v s.opened) t.took.made.extends
          (facts-same ks v W s start refl refl c.closing.facts) ct.closing.facts
          t.took.follows.loose ct.alike c.says)

      tells-now :
          TellsOpen (regions_of (valuation t.values) t.took.after.opened) (rs ++ t.made) t.took.U
      tells-now =
          subst (λ ns. TellsOpen ns (rs ++ t.made) T) regions-same
          (open-made p.program W T next t.took.later t.took.new t.took.made t.took.created
          t.took.are_created (regions_of v s.opened) rs t.made t.are_made c.tells)

      numbered : Numbered next (map (λ c. c.owner) t.took.created) t.took.later
      numbered =
          subst (λ os. Numbered next os t.took.later) t.took.are_created t.took.made.numbered

      owners-now : AllByRecursion (IsOwner p.program t.took.U) (map (λ c. c.owner) t.took.created)
      owners-now =
          subst (AllByRecursion (IsOwner p.program T)) t.took.are_created t.took.made.owners

      -- ---- by the names' values

      module _ (ns : List NameValue)
          (en : names_in t.values (env_at t.took.after (length s.envs)) ≡ traced ns)
          (cs : List Cert) (spans : List ℕ) (below : PlainTrees)
          (hd2 : p.N (node (by_shift cs spans) below) t.took.after tasks)
          (node_is : child.0 ≡ node (by_shift cs spans) below) where
        so : NamesSo (region_scope q.k q.x.names) t.values
            (env_at t.took.after (length s.envs)) ns
        so =
            names-in-so t.values t1.sorts t.sorted ks (region_scope q.k q.x.names) env ns
            t.took.ready.placed t.terms en

        abbrev region : TrackedRegion
        region = shut_region was.0 cn q.x t.taken ns

        x : shutting.ShiftsTo p V W part ks (valuation vs) s held n ts ct t.values refl t.sorted cs
            spans below hd2
        x =
            shutting.shifts-to p V W part ks v s held n ts ct t.values refl t.sorted cs spans below
            hd2

        abbrev us : List NameValue
        us =
            shutting.values p V W part ks v s held n ts ct t.values refl t.sorted cs spans below hd2
            x ns so

        abbrev after : PlainState
        after =
            shutting.after p V W part ks v s held n ts ct t.values refl t.sorted cs spans below hd2
            x ns so

        abbrev owner : Owner
        owner =
            shutting.owner p V W part ks v s held n ts ct t.values refl t.sorted cs spans below hd2
            x ns so

        abbrev rc : RegionClosed p V W part ks (valuation vs) s held ts
        rc =
            shutting.rc p V W part ks v s held n ts ct t.values refl t.sorted cs spans below hd2 x ns
            so

        now-open :
            t.took.U (value (valuation t.values).whole q.f.region)
            ≡ Some (known_as q.f.kind (map (value (valuation t.values).whole) q.f.args) None)
        now-open =
            (shutting.this-open p V W part ks v s held n ts ct t.values refl t.sorted cs spans below
            hd2).2

        owner-same : owner ≡ owner_of region
        owner-same =
            let k = known_as q.f.kind (map (value w.whole) q.f.args) None in
            let r = was.0.owned.region in
            let same = some-same k (known_as r.kind r.args None)
            (sym now-open ∙ ap T ct.same_region
            ∙ t.took.made.extends n0 (known_as r.kind r.args None) was.2) in
            let number = ct.same_region ∙ sym is_number in
            let state = shutting.state-same p V W part ks v s held n ts ct t.values refl t.sorted cs
            spans below hd2 x ns so in
            let stock = taken-part p ks W next job_here vs (env_added s (region_env q.f q.names)) held
            kids v (trees_size kids) t in
            λ i. record {
              number = number i;
              kind = (same i).kind;
              args = (same i).args;
              state = state i;
              stock = sym stock i;
            }

        number-now : value (valuation t.values).whole q.f.region ≡ region.owned.region.number
        number-now = ap (λ (o : Owner). o.number) owner-same

        table-now :
            with_known t.took.U region.owned.region.number
            (known_as region.owned.region.kind region.owned.region.args
            (Some region.owned.region.state))
            ≡ closed_table t.took.U owner
        table-now = ap (closed_table T) (sym owner-same)

        abbrev by_it : SettlesBy p.program V W part held (region.owned.region.number ∷ []) t.took.left
        by_it =
            settles-for p.program V W part held t.took.left (region.owned.region.number ∷ [])
            (value (valuation vs).whole q.f.region ∷ [])
            (λ m a. elim a [ inl i ↦ inl (sym is_number ∙ i) | inr none ↦ absurd none ]) refl rc.by

        put :
            (with_region region (rs ++ t.made) ≡ with_region region rs ++ t.made)
            × (numbers_in (with_region region rs) ≡ numbers_in rs)
        put =
            put-there region was.0 rs t.made c.ascending (ap (tracked_at rs) is_number ∙ was.1)

        abbrev there_then : List TrackedRegion
        there_then = with_region region rs ++ t.made

        numbers-then :
            numbers_in (with_region region rs ++ t.made) ≡ numbers_in rs ++ numbers_in t.made
        numbers-then =
            map-join (λ (r : TrackedRegion). r.owned.region.number) (with_region region rs) t.made
            ∙ ap (λ ms. ms ++ numbers_in t.made) put.1

        closes-then :
            Closes p heap V part (closed_table t.took.U owner)
            (shutting.jn p V W part ks v s held n ts ct t.values refl t.sorted cs spans below hd2 x
            ns so).js us after t.took.left (with_region region rs ++ t.made) t.took.later
        closes-then =
            let b = rc.by in
            let pp = p.program in
            let ms = regions_of (valuation us) (remove t1.opened o) in
            record {
              closing = shutting.closing-then p V W part ks v s held n ts ct t.values refl t.sorted cs
                  spans below hd2 x ns so;
              sorted = shutting.values-sorted p V W part ks v s held n ts ct t.values refl t.sorted cs
                  spans below hd2 x ns so;
              says = shutting.says-then p V W part ks v s held n ts ct t.values refl t.sorted cs spans
                  below hd2 x ns so says-now;
              fits = settled-fits pp V W b.U part b.opened b.closed b.made b.settles c.fits;
              bound = numbers_of b.made ++ c.bound;
              listed = settled-listed pp V W b.U part b.opened b.closed b.made b.settles c.bound
                  c.listed;
              tells =
                  subst (TellsOpen ms there_then) table-now
                  (subst (λ qs. TellsOpen ms qs (with_known T region.owned.region.number
                  (known_as region.owned.region.kind region.owned.region.args
                  (Some region.owned.region.state)))) put.0
                  (open-shut T region (regions_of w t1.opened) ms (rs ++ t.made)
                  (λ m a. elim (shutting.open-or p V W part ks v s held n ts ct t.values refl t.sorted
                  cs spans below hd2 x ns so m a) [
                    | inl i ↦ inl (sym number-now ∙ i)
                    | inr k ↦ inr k
                  ])
                  (λ m a.
                  let k = shutting.open-apart p V W part ks v s held n ts ct t.values refl t.sorted cs
                  spans below hd2 x ns so m a in
                  (k.0, λ i. k.1 (number-now ∙ i))) tells-now));
              ascending =
                  subst AreAscending (sym numbers-then)
                  (made-ascends pp T next t.took.later t.took.created t.made numbered t.are_made rs
                  c.ascending low);
              below =
                  subst (AllByRecursion (λ m. m <ℤ t.took.later)) (sym numbers-then)
                  (made-low pp T next t.took.later t.took.created t.made numbered t.are_made rs
                  c.ascending low);
              cells = λ a z.
                  let i = ap (λ (q : Stock). q.cells a z) t.took.budget.1 in
                  let none = no-cells-in pp t.took.new a z in
                  let l = c.cells a z in omega (arith, i, none, l);
            }

        owned-then : OwnedSo p.program (closed_table t.took.U owner) region
        owned-then =
            let w1 = t.took.w in
            let X = values_in w1 env in
            let sc = region_scope q.k q.x.names in
            let mean = values-mean sc w1 env in
            let d = t.took.draws w1 (alike-same (Old t1) w1) X mean no_stock in
            let met = t.met w1 (alike-same (Old t1) w1) X mean no_stock
            (ap (λ (u : Valuation). u.fraction.under) t.valued) in
            let back = sym t.valued in
            let here = values_in w env in
            let sh = x.sh in
            owned-shut p.program T owner now-open w1 env q.k q.x cn q.movable.is_type q.is_case
            (let size = map-length (value w.whole) q.f.args in
            let arity = q.movable.arity in omega (arith, size, arity)) ns
            (ap (λ u. values_in u env) t.valued ∙ so.same) so.fits
            (so.size ∙ t.took.follows.size ∙ ap length (get-or-push s.envs (region_env q.f q.names) [])
            ∙ (let a = length-join (map Some q.f.args) q.names in
            let b = map-length Some q.f.args in
            let arity = q.movable.arity in
            let size = q.size in omega (arith, a, b, arity, size))) t.taken
            (subst (λ u. AreWhole (values_in u env) 0 (owner.number ∷ owner.args)) back
            (ct.args_are here (values-mean sc w env)))
            (subst (λ u. value (values_in u env).whole q.x.state ≡ owner.state) back
            (sym (sh.state_is here (values-mean sc w env))))
            (subst (λ u. AllByRecursion (CompHolds (values_in u env)) q.x.when) back
            (sh.conditions here (values-mean sc w env)))
            d (met.0 ∙ sym t.more_wildcards) (met.1 ∙ sym t.more_facts) region owner-same refl refl

        -- ---- the walk

        to-node :
            (seating : Bool) (enter : Interpreting) (w : Walk) →
            walks_into seating enter p.program all (goals_of s (to_close true n ∷ ts))
            (record w { values = vs; next = next; regions = rs })
            ≡ walks_into seating enter p.program (tree (node (by_shift cs spans) below) no_trees)
            (goal t.took.after tasks ∷ []) (at_shift w)
        to-node seating enter w =
            to-shift seating enter w
            ∙ ap (λ d. walks_into seating enter p.program (tree d no_trees) (goal t1 tasks ∷ [])
            (at_shift w)) node_is

        shifts-on :
            (seating : Bool) (enter : Interpreting) (w : Walk) →
            (walks_into seating enter p.program (tree (node (by_shift cs spans) below) no_trees)
            (goal t.took.after tasks ∷ []) (at_shift w)
            ≡ past_width)
            ⊎ (walks_into seating enter p.program (tree (node (by_shift cs spans) below) no_trees)
            (goal t.took.after tasks ∷ []) (at_shift w)
            ≡ walks_into seating enter p.program below (goals_of after ts) (record w {
              values = us;
              next = t.took.later;
              regions = with_region region rs ++ t.made;
            }))
        shifts-on seating enter w =
            let pp = p.program in
            let gs = goals_left pp (goal t1 tasks) (by_shift cs spans) in
            let on = shut_walk t1 q.f was.0 cn q.x t.taken ns (at_shift w) in
            elim (shift-so pp t1 o cn e t.taken (at_shift w) q.f q.k q.x was.0 ns is_f
            q.movable.is_type q.is_case there (inr (ns, en, refl))) [
              | inl wide ↦
                  inl (ap (walk_below enter pp seating below gs) wide
                  ∙ below-wide enter pp seating below gs)
              | inr d ↦
                  inr (ap (walk_below enter pp seating below gs) (d.1 ∙ ap traced d.2)
                  ∙ ap (λ hs. walks_into seating enter pp below hs on) x.goals
                  ∙ ap (λ qs. walks_into seating enter pp below (goals_of after ts) (record w {
                    values = us;
                    next = t.took.later;
                    regions = qs;
                  })) put.0)
            ]

        closes-to : ClosesTo p heap V part W ks vs s held rs next n ts all
        closes-to =
            let pp = p.program in
            let gone = length-remove t1.opened o q.f is_f in
            let same = ap length ct.opened in
            record {
              region = region;
              made = t.made;
              values = us;
              after = after;
              children = below;
              goes = rc.goes;
              left = t.took.left;
              by = by_it;
              js = (shutting.jn p V W part ks v s held n ts ct t.values refl t.sorted cs spans below
                  hd2 x ns so).js;
              later = shutting.later-then p V W part ks v s held n ts ct t.values refl t.sorted cs
                  spans below hd2 x ns so;
              fewer = omega (arith, gone, same);
              or = λ m a. elim (shutting.open-or p V W part ks v s held n ts ct t.values refl t.sorted
                  cs spans below hd2 x ns so m (subst (Among m) regions-same a)) [
                    | inl i ↦ inl (sym number-now ∙ i)
                    | inr k ↦ inr k
                  ];
              next_is = t.took.later;
              is_open =
                  subst (λ m. Among m (regions_of v s.opened)) (sym is_number)
                  (among-at (λ f. value v.whole f.region) s.opened o q.f q.is_opened);
              still = λ m a.
                  subst (Among m) (sym regions-same)
                  (shutting.open-apart p V W part ks v s held n ts ct t.values refl t.sorted cs spans
                  below hd2 x ns so m a).0;
              numbered =
                  subst (λ os. Numbered next os t.took.later)
                  (owners-tracked pp T t.took.created t.made t.are_made) numbered;
              closes = closes-then;
              closed_are = rc.is_closed ∙ ap (λ o. o ∷ []) owner-same;
              made_are = rc.are_made ∙ owners-tracked pp T t.took.created t.made t.are_made;
              owned = owned-then;
              owned_made =
                  all-owned-on pp T (closed_table T owner) (closed-states T owner now-open) t.made
                  (all-owned pp T t.took.created t.made t.are_made owners-now);
              walks = λ seating enter w. elim (shifts-on seating enter w) [
                | inl wide ↦ inl (to-node seating enter w ∙ wide)
                | inr on ↦ inr (to-node seating enter w ∙ on)
              ];
            }

      -- ---- by the tree of the move

      by-names :
          (o : Traced (List NameValue)) →
          names_in t.values (env_at t.took.after (length s.envs)) ≡ o → (cs : List Cert)
          (spans : List ℕ) (below : PlainTrees) →
          p.N (node (by_shift cs spans) below) t.took.after tasks →
          child.0 ≡ node (by_shift cs spans) below → Answer all
      by-names (traced ns) en cs spans below hd2 node_is =
          inr (closes-to ns en cs spans below hd2 node_is)
      by-names untold en cs spans below hd2 node_is =
          absurd (names-told t.values t1.sorts t.sorted env en)
      by-names past_width en cs spans below hd2 node_is =
          let gs = goals_left p.program (goal t1 tasks) (by_shift cs spans) in
          inl (λ seating enter w.
          to-shift seating enter w
          ∙ ap (λ d. walks_into seating enter p.program (tree d no_trees) (goal t1 tasks ∷ [])
          (at_shift w)) node_is
          ∙ ap (walk_below enter p.program seating below gs)
          (shift-wide p.program t1 o cn e t.taken (at_shift w) q.f q.k q.x was.0 is_f
          q.movable.is_type q.is_case there en)
          ∙ below-wide enter p.program seating below gs)

      by-tree :
          (d : PlainTree) → p.N d t.took.after tasks → child.0 ≡ d → Answer all
      by-tree (node (by_absurd x) below) h node_is =
          absurd ((p.step h).0.0 (valuation t.values)
          (solves ks (valuation t.values) t1 ct.closing.grounded.meets))
      by-tree (node (by_shift cs spans) below) h node_is =
          by-names (names_in t.values env) refl cs spans below h node_is
      by-tree d h node_is = absurd (p.step h).1

      shut-by : Answer all
      shut-by = by-tree child.0 child.1 refl

    picked-closes : Answer all
    picked-closes =
        elim (takes-case p wf law heap V part W ks vs s held rs next c n ts o cn mv kids hd q) [
          | inl wide ↦ too-wide wide
          | inr t ↦ shut-by t
        ]

  close-node :
      (d : PlainTree) → p.N d s (to_close true n ∷ ts) → Answer (tree d no_trees)
  close-node (node (by_absurd x) kids) h =
      absurd ((p.step h).0.0 v (solves ks v s c.closing.grounded.meets))
  close-node (node (by_pick o cn mv) kids) h =
      picked-closes o cn mv kids h
      (on-goals p wf law heap V part W ks vs s held rs next c n ts o cn mv kids h)
  close-node d h = absurd (p.step h).1

-- an open region is closed so, or each walk is too wide
pub closes-one : (p : Checked) → IsWellFormed p.program → TakenLaw p → ClosesLaw p
closes-one p wf law heap V part W ks vs s held rs next n ts trees goes c =
    let d = lone-child p.N trees s (to_close true n ∷ ts) goes in
    subst (λ us. ClosesWide p heap V part vs s rs next n ts us
    ⊎ ClosesTo p heap V part W ks vs s held rs next n ts us) (sym d.2)
    (close-node p wf law heap V part W ks vs s held rs next c n ts d.0 d.1)
