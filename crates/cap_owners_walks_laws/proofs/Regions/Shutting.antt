-- An open region is closed along a walk once its case is taken: its move is proved, and it is put in
-- its place, with its fact's state at the walk's values.
use Rattle.std.proofs.Common.{◌≡◌, ◌≢◌, ◌⊎◌, inl, inr, ℕ, ℤ, ◌&&◌, Bool, true, false, Option, List, [], ◌∷◌, ◌++◌, map, length, Some, None, refl, sym, ap, ◌∙◌, subst, arith}
use Rattle.std.specs.Prelude.{slice_get, slice_set, remove, unwrap_or, IsSomeAnd, if◌then◌else◌}
use Rattle.std.specs.List.{AllByRecursion}
use Rattle.std.proofs.lemmas.Slice.Zip.{AllZip-long}
use Rattle.cap_lin.specs.Linear.{same_number}
use Rattle.cap_lin.specs.Values.{Valuation, value}
use Rattle.cap_lin.specs.declared.row.Sort.{Sort}
use Rattle.cap_lin.specs.declared.row.Sort.TheVariants.{Int}
use Rattle.cap_farkas.specs.declared.cert.Cert.{Cert}
use Rattle.cap_prog.specs.Program.{PlainProgram}
use Rattle.cap_prog.specs.Scopes.{region_scope}
use Rattle.cap_goal_spec.specs.Terms.{lone_variable}
use Rattle.cap_goal_spec.specs.States.{PlainFact, PlainState, PlainTask, to_shift, with_state, PlainGoal, goal, goals_of}
use Rattle.cap_goal_spec.specs.Choices.{node, PlainTrees, by_shift}
use Rattle.cap_rules.specs.Attempts.{Attempt}
use Rattle.cap_rules.specs.Making.{env_at, is_of_region, without_first}
use Rattle.cap_rules.specs.Closing.{prove_move}
use Rattle.cap_rules_nodes.specs.Nodes.{goals_left}
use Rattle.cap_machine_accounts.specs.Assertions.{NameValue, a_number}
use Rattle.cap_account_resources.specs.Parts.{known_as, Table}
use Rattle.cap_account_resources.proofs.Lists.{Among, all-at, all-more, all-map, all-remove, all-both, all-second}
use Rattle.cap_account_resources.proofs.Owners.{Owner}
use Rattle.cap_account_resources.proofs.Room.{with_known}
use Rattle.cap_account_resources.proofs.Stocks.{Stock}
use Rattle.cap_account_states.specs.Nodes.{NodePredicate, Comes, Open}
use Rattle.cap_account_states.proofs.Alike.{alike-less, agree-alike}
use Rattle.cap_account_states.proofs.Attempts.{comes-more}
use Rattle.cap_account_states.proofs.Checked.{Checked}
use Rattle.cap_account_states.proofs.Facts.{Facts, FactHolds, LooseState, all-without}
use Rattle.cap_account_states.proofs.KnowsLater.{Steady}
use Rattle.cap_account_states.proofs.Meets.{Free, Usable}
use Rattle.cap_account_states.proofs.Naming.{values_in, values-mean}
use Rattle.cap_account_states.proofs.Terms.{Agree}
use Rattle.cap_account_assertions.proofs.Follows.{all-among}
use Rattle.cap_account_steps.proofs.CaseTaken.{CaseTaken}
use Rattle.cap_account_steps.proofs.ClosedTables.{closed_table, facts-closed}
use Rattle.cap_account_steps.proofs.Entering.{firm-exact}
use Rattle.cap_account_steps.proofs.Joining.{Joined}
use Rattle.cap_account_steps.proofs.RegionClosed.{RegionClosed, region-closed, joined}
use Rattle.cap_account_steps.proofs.Shifting.{closed_state, none-other, Shifted, shifted}
use Rattle.cap_account_steps.proofs.StillOpen.{LaterState, later-trans, regions-later, region-or, others-differ}
use Rattle.cap_account_steps.proofs.Worlds.{regions_of, AllOver, IsStillOpen, Closing}
use Rattle.cap_owners_spec.specs.Traced.{valuation}
use Rattle.cap_owners_walks_laws.proofs.Values.More.{FitsSort}
use Rattle.cap_owners_walks_laws.proofs.Values.Changed.{sorted-put}
use Rattle.cap_owners_walks_laws.proofs.Walks.Nodes.{left-children}
use Rattle.cap_owners_walks_laws.proofs.Passes.Names.{NamesSo}
use Rattle.cap_owners_walks_laws.proofs.Regions.Freely.{closing-at}
use Rattle.cap_owners_walks_laws.proofs.Regions.Joins.{joined-agree, firm-agrees, firm_one}
use Rattle.cap_owners_walks_laws.proofs.Regions.Landing.{Lands, lands, node-lands}
use Rattle.cap_owners_walks_laws.proofs.Regions.Open.{among-removed}
use Rattle.cap_owners_walks_laws.proofs.Regions.Refilled.{sorted-whole}
use Rattle.cap_owners_walks_laws.proofs.Regions.Regiven.{AreSorted}
use Rattle.cap_owners_walks_laws.proofs.Regions.Says.{SaysOr, closed-says}
use Rattle.cap_owners_walks_laws.proofs.Regions.Shifts.{firm_all}

-- what an attempt without a value of its own comes to
comes-any : (o : Attempt (Unit {0})) (X : Type 0) → Comes o (λ u. X) → X
comes-any o X h = by o.value h.1
  where
    by : (m : Option (Unit {0})) → IsSomeAnd m (λ u. X) → X
    by None k = absurd k
    by (Some u) k = k

-- values stay of their sorts where states of loose facts are set
firm-sorted :
    (ks : List ℕ) (sorts : List Sort) (n z : ℤ) (fs : List PlainFact) (vs : List NameValue) →
    AllByRecursion (LooseState ks sorts) fs → AreSorted sorts vs →
    AreSorted sorts (firm_all fs n z vs)
firm-sorted ks sorts n z [] vs l h = h
firm-sorted ks sorts n z (f ∷ fs) vs l h =
    firm-sorted ks sorts n z fs (firm_one f n z vs) l.1
    (by f.loose refl (same_number (value (valuation vs).whole f.region) n))
  where
    by :
        (b : Bool) → f.loose ≡ b → (c : Bool) →
        AreSorted sorts (if b && c
        then slice_set vs (unwrap_or (lone_variable f.state) (length vs)) (a_number z) else vs)
    by false e c = h
    by true e false = h
    by true e true =
        let q = l.0 e in
        let at : unwrap_or (lone_variable f.state) (length vs) ≡ q.0 =
        ap (λ t. unwrap_or (lone_variable t) (length vs)) q.1 in
        subst (λ i. AreSorted sorts (slice_set vs i (a_number z))) (sym at)
        (sorted-put sorts vs q.0 Int (a_number z) h q.3 tt)

-- the join's values and the walk's, where the values before are those of the walk
joined-at :
    (p : PlainProgram) (ks : List ℕ) (u : Valuation) (vs : List NameValue) → u ≡ valuation vs →
    (U : Table) (s : PlainState) (f : PlainFact) (j : Joined p ks u U s f) → Facts ks u U s →
    length s.sorts ≡ length vs →
    Agree (Steady j.js s) j.w
    (valuation (firm_all s.facts (value u.whole f.region) (value u.whole f.state) vs))
joined-at p ks u vs e U s f j facts count =
    subst (λ u. (j : Joined p ks u U s f) → Facts ks u U s →
    Agree (Steady j.js s) j.w
    (valuation (firm_all s.facts (value u.whole f.region) (value u.whole f.state) vs))) (sym e)
    (λ j facts. joined-agree p ks vs U s f j facts count) j facts

module _ (p : Checked) (V W : Table) (part : Stock) (ks : List ℕ) (v : Valuation) (s : PlainState)
    (held : Stock) (n : ℕ) (ts : List PlainTask) (ct : CaseTaken p V W part ks v s held n ts)
    (us : List NameValue) (valued : ct.w ≡ valuation us) (sorted : AreSorted ct.t.sorts us) where
  -- rule `shift`, at the goals that it leaves
  module _ (cs : List Cert) (spans : List ℕ) (below : PlainTrees)
      (hd : p.N (node (by_shift cs spans) below) ct.t
      (to_shift ct.o ct.number ct.move ct.env n ∷ ts)) where
    abbrev G : List PlainGoal
    G = goals_left p.program (goal ct.t (to_shift ct.o ct.number ct.move ct.env n ∷ ts))
        (by_shift cs spans)

    abbrev M : NodePredicate
    M = Lands p.N G

    is_f : slice_get ct.t.opened ct.o ≡ Some ct.f
    is_f = ap (λ fs. slice_get fs ct.o) ct.opened ∙ ct.is_opened

    pub this-open : IsStillOpen ks ct.w V ct.by.U ct.t ct.f
    this-open =
        all-at (IsStillOpen ks ct.w V ct.by.U ct.t) ct.t.opened ct.o ct.f ct.closing.opened is_f

    on-goals : Shifted M ks ct.w ct.t spans ct.o ct.move ct.env ct.f ct.k ct.x ts below
    on-goals =
        shifted p.program M ks ct.w ct.t ct.closing.grounded.meets spans ct.o ct.number ct.move
        ct.env ts below ct.f ct.k ct.x is_f ct.is_case ct.movable ct.placed
        (none-other ks ct.w ct.by.U ct.t ct.f None ct.closing.facts this-open.2)
        (node-lands p (by_shift cs spans) below ct.t
        (to_shift ct.o ct.number ct.move ct.env n ∷ ts) hd)

    -- its goal, and the law at it
    pub record ShiftsTo : Type 0 where
      pub sh : Shifted p.N ks ct.w ct.t spans ct.o ct.move ct.env ct.f ct.k ct.x ts below
      pub goals : G ≡ goals_of (closed_state ct.t ct.o (with_state ct.f sh.new)) ts

    pub shifts-to : ShiftsTo
    shifts-to =
        let o = on-goals in
        let after = closed_state ct.t ct.o (with_state ct.f o.new) in
        let open_on : Open M below after ts =
        comes-any (prove_move ct.k ct.t ct.f o.new ct.move spans) (Open M below after ts) o.moves in
        let g = goal ct.t (to_shift ct.o ct.number ct.move ct.env n ∷ ts) in
        let down = λ (k : Open M below after ts).
        lands p.N G below after ts (left-children p (by_shift cs spans) below g hd) k in
        record {
          sh = record {
            new = o.new;
            over = o.over;
            state_is = o.state_is;
            conditions = o.conditions;
            moves =
                comes-more (prove_move ct.k ct.t ct.f o.new ct.move spans) (λ u. Open M below after ts)
                (λ u. Open p.N below after ts) (λ u k. (down k).1) o.moves;
          };
          goals = (down open_on).0;
        }

    -- ---- the region is closed

    module _ (x : ShiftsTo) (ns : List NameValue)
        (so : NamesSo (region_scope ct.k ct.x.names) us (env_at ct.t ct.env) ns)
      where
        abbrev pub z : ℤ
        z = value (valuation ns).whole ct.x.state

        abbrev pub number : ℤ
        number = value (valuation us).whole ct.f.region

        abbrev pub values : List NameValue
        values =
            firm_all ct.t.facts (value (valuation us).whole ct.f.region)
            (value (valuation ns).whole ct.x.state) us

        abbrev T : Table
        T = ct.by.U

        abbrev pub owner : Owner
        owner = record {
          number = value ct.w.whole ct.f.region;
          kind = ct.f.kind;
          args = map (value ct.w.whole) ct.f.args;
          state = value ct.w.whole x.sh.new;
          stock = ct.given;
        }

        abbrev g : PlainFact
        g = with_state ct.f x.sh.new

        abbrev shut : PlainState
        shut = record ct.t { opened = remove ct.t.opened ct.o }

        abbrev pub after : PlainState
        after = closed_state ct.t ct.o (with_state ct.f x.sh.new)

        pub jn : Joined p.program ks ct.w (closed_table ct.by.U owner) shut (with_state ct.f x.sh.new)
        jn = joined p V W part ks v s held n ts ct spans below x.sh

        abbrev pub rc : RegionClosed p V W part ks v s held ts
        rc = region-closed p V W part ks v s held n ts ct spans below x.sh jn

        names-same : values_in ct.w (env_at ct.t ct.env) ≡ valuation ns
        names-same = ap (λ u. values_in u (env_at ct.t ct.env)) valued ∙ so.same

        pub state-same : value ct.w.whole x.sh.new ≡ value (valuation ns).whole ct.x.state
        state-same =
            let env = env_at ct.t ct.env in
            x.sh.state_is (values_in ct.w env)
            (values-mean (region_scope ct.k ct.x.names) ct.w env)
            ∙ ap (λ (a : Valuation). value a.whole ct.x.state) names-same

        pub number-same : value ct.w.whole ct.f.region ≡ value (valuation us).whole ct.f.region
        number-same = ap (λ (u : Valuation). value u.whole ct.f.region) valued

        shut-facts : Facts ks ct.w (closed_table ct.by.U owner) shut
        shut-facts =
            let now = facts-closed T owner this-open.2 ks ct.w ct.t ct.closing.facts in
            record {
              holds = now.holds;
              over = now.over;
              loose = now.loose;
              differ = now.differ;
            }

        count : length ct.t.sorts ≡ length us
        count = sym (AllZip-long FitsSort ct.t.sorts us sorted)

        agree : Agree (Steady jn.js shut) jn.w (valuation values)
        agree =
            let A = λ (m c : ℤ). Agree (Steady jn.js shut) jn.w
            (valuation (firm_all ct.t.facts m c us)) in
            subst (λ m. A m z) number-same
            (subst (A (value ct.w.whole ct.f.region)) state-same
            (joined-at p.program ks ct.w us valued (closed_table T owner) shut g jn shut-facts count))

        pub values-sorted : AreSorted ct.t.sorts values
        values-sorted =
            firm-sorted ks ct.t.sorts number z ct.t.facts us ct.closing.facts.loose sorted

        pub closing-then :
            Closing p.program V (closed_table ct.by.U owner) part jn.js (valuation values) after
            ct.left
        closing-then =
            closing-at p.program V (closed_table T owner) part jn.js jn.w (valuation values) after
            ct.left agree (sorted-whole ct.t.sorts values values-sorted) rc.closing

        firm : Agree (Free ks) ct.w (valuation values)
        firm =
            subst (λ u. Agree (Free ks) u (valuation values)) (sym valued)
            (firm-agrees ks ct.t.sorts number z ct.t.facts us ct.closing.facts.loose)

        shut-later : LaterState ks jn.js ct.w (valuation values) ct.t after
        shut-later = record {
          alike =
              alike-less (Steady ks ct.t) (Free ks) ct.w (valuation values) (λ y h. h.1)
              (agree-alike (Free ks) ct.w (valuation values) firm);
          sorts = λ y o e. e;
          count = omega arith;
          less = λ y h. jn.less y h.1;
          store = refl;
        }

        pub later-then : LaterState ks jn.js v (valuation values) s after
        later-then =
            later-trans ks ks jn.js v ct.w (valuation values) s ct.t after ct.later shut-later

        -- ---- open regions

        abbrev others : List PlainFact
        others = remove ct.t.opened ct.o

        pub others-same :
            regions_of (valuation values) (remove ct.t.opened ct.o)
            ≡ regions_of ct.w (remove ct.t.opened ct.o)
        others-same =
            let still = IsStillOpen ks ct.w V T ct.t in
            regions-later p.program ks jn.js ct.w (valuation values) ct.t after shut-later others
            (all-more still (AllOver (Usable ks ct.t.sorts Int)) (λ f h. h.0) others
            (all-remove still ct.t.opened ct.o ct.closing.opened))

        pub open-or :
            (m : ℤ) → Among m (regions_of ct.w ct.t.opened) →
            (value ct.w.whole ct.f.region ≡ m)
            ⊎ Among m (regions_of (valuation values) (remove ct.t.opened ct.o))
        open-or m a = elim (region-or ct.w ct.t.opened ct.o ct.f is_f m a) [
          | inl e ↦ inl e
          | inr b ↦ inr (subst (Among m) (sym others-same) b)
        ]

        pub open-apart :
            (m : ℤ) → Among m (regions_of (valuation values) (remove ct.t.opened ct.o)) →
            Among m (regions_of ct.w ct.t.opened) × (value ct.w.whole ct.f.region ≢ m)
        open-apart m a =
            let b = subst (Among m) others-same a in
            let at = λ (f : PlainFact). value ct.w.whole f.region in
            let ne = λ (k : ℤ). value ct.w.whole ct.f.region ≢ k in (
              among-removed at ct.t.opened ct.o m b,
              all-among ne (map at others) m
                  (all-map at ne others
                  (others-differ ct.w ct.t.opened ct.o ct.f is_f ct.closing.differ)) b,
            )

        -- ---- facts

        module _
            (says : AllByRecursion (SaysOr ct.w ct.by.U (regions_of ct.w ct.t.opened)) ct.t.facts)
          where
            abbrev Says : Table → List ℤ → List PlainFact → Type 0
            Says U ms fs = AllByRecursion (SaysOr (valuation values) U ms) fs

            first : Says (closed_table ct.by.U owner) (regions_of ct.w (remove ct.t.opened ct.o))
                ct.t.facts
            first =
                let ms = regions_of ct.w others in
                let k = λ (u : Valuation). known_as ct.f.kind (map (value u.whole) ct.f.args) None in
                let more = all-more (SaysOr ct.w T (regions_of ct.w ct.t.opened))
                (SaysOr ct.w T (value ct.w.whole ct.f.region ∷ ms))
                (λ f q. elim q [
                  | inl a ↦ inl (region-or ct.w ct.t.opened ct.o ct.f is_f (value ct.w.whole f.region) a)
                  | inr e ↦ inr e
                ]) ct.t.facts says in
                subst (λ U. Says U ms ct.t.facts)
                (λ i. with_known T (sym number-same i)
                (known_as ct.f.kind (map (value (sym valued i).whole) ct.f.args)
                (Some (sym state-same i))))
                (closed-says ks us T ct.t (subst (λ u. Facts ks u T ct.t) valued ct.closing.facts) count
                number z ct.f.kind (map (value (valuation us).whole) ct.f.args)
                (subst (λ u. T (value u.whole ct.f.region) ≡ Some (k u)) valued this-open.2) ms
                (subst (λ u. AllByRecursion (SaysOr u T (value u.whole ct.f.region ∷ ms)) ct.t.facts)
                valued more))

            pub says-then :
                AllByRecursion (SaysOr (valuation values) (closed_table ct.by.U owner)
                (regions_of (valuation values) (remove ct.t.opened ct.o))) after.facts
            says-then =
                let U = closed_table T owner in
                let kept = without_first (is_of_region g) ct.t.facts in
                let own = (all-second (FactHolds (valuation values) U) kept (g ∷ [])
                closing-then.facts.holds).0 in
                subst (λ ms. Says U ms (kept ++ g ∷ [])) (sym others-same)
                (all-both (SaysOr (valuation values) U (regions_of ct.w others)) kept (g ∷ [])
                (all-without (SaysOr (valuation values) U (regions_of ct.w others)) (is_of_region g)
                ct.t.facts first)
                (inr (firm-exact (valuation values) U g refl own), tt))
