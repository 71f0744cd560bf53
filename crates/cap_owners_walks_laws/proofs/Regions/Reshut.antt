-- A region that is open in its own tree is closed as it was, along a walk: in some case, which what
-- it has meets by what the walk took.
use Rattle.std.proofs.Common.{◌≡◌, inl, inr, ℕ, zero, suc, ℤ, Bool, true, false, ◌==◌, ◌&&◌, List, [], ◌∷◌, ◌++◌, length, map, replicate, Option, Some, refl, sym, ap, ◌∙◌, subst, arith, ◌≤◌}
use Rattle.std.specs.Prelude.{slice_get, nat_le}
use Rattle.std.specs.List.{AllByRecursion}
use Rattle.std.proofs.lemmas.Bool.Decides.{nat_tests}
use Rattle.cap_lin.specs.Values.{value}
use Rattle.cap_lin.specs.declared.row.Sort.{Sort}
use Rattle.cap_lin.specs.declared.row.Sort.TheVariants.{Int}
use Rattle.cap_farkas.specs.declared.cert.Cert.{Cert}
use Rattle.cap_prog.specs.Program.{PlainRegionType}
use Rattle.cap_prog.specs.Scopes.{Scope, HasSort, known, whole_numbers, region_scope, region_sorts}
use Rattle.cap_prog.specs.WellFormed.{IsWellFormed, CaseFits}
use Rattle.cap_machine.specs.Machine.{Heap}
use Rattle.cap_machine_accounts.specs.Assertions.{NameValue, AreWhole}
use Rattle.cap_goal_spec.specs.States.{PlainFact, PlainState, to_close, to_shift, with_state, PlainGoal, goal}
use Rattle.cap_goal_spec.specs.Environments.{term_of, bound, region_env}
use Rattle.cap_goal_spec.specs.Choices.{PlainTree, node, PlainTrees, no_trees, tree, by_absurd, by_pick, by_shift}
use Rattle.cap_rules.specs.Making.{env_at}
use Rattle.cap_rules.specs.Closing.{may_move, prove_move}
use Rattle.cap_rules_nodes.specs.Nodes.{goals_left}
use Rattle.cap_account_resources.specs.Parts.{cells_of, known_as, Table}
use Rattle.cap_account_resources.proofs.Lists.{get-or-push, push-length, map-at, map-length, map-join, all-at, all-more}
use Rattle.cap_account_resources.proofs.Stocks.{Stock}
use Rattle.cap_account_resources.proofs.Tables.{FitsRoom}
use Rattle.cap_account_states.specs.Nodes.{NodePredicate, Comes, Open}
use Rattle.cap_account_states.proofs.Attempts.{env_added}
use Rattle.cap_account_states.proofs.Checked.{Checked, lone-child}
use Rattle.cap_account_states.proofs.Environments.{bound-over, region-env-over}
use Rattle.cap_account_states.proofs.Meets.{Usable, usable-on, usable-old, Old, solves}
use Rattle.cap_account_states.proofs.Naming.{Placed, Means}
use Rattle.cap_account_states.proofs.Scopes.{length-join, rep-length}
use Rattle.cap_account_states.proofs.Terms.{Over, vars-more}
use Rattle.cap_account_assertions.proofs.Asserted.{OwnsRegion}
use Rattle.cap_account_assertions.proofs.CaseStarts.{state-at, known-envs}
use Rattle.cap_account_assertions.proofs.FreshRegions.{IsKnown}
use Rattle.cap_account_steps.proofs.Actions.{means-earlier, region-whole}
use Rattle.cap_account_steps.proofs.Moves.{Movable, movable-on, kept-says}
use Rattle.cap_account_steps.proofs.Shifting.{Picked, picked, take_and_shift, none-other, closed_state, Shifted, shifted}
use Rattle.cap_account_steps.proofs.StableRegions.{Says, says-alike, says-known}
use Rattle.cap_account_steps.proofs.Worlds.{AllOver}
use Rattle.cap_owners_spec.specs.Traced.{Traced, traced, ◌>>=◌, found, value_at, valuation, past_width, untold}
use Rattle.cap_owners_spec.specs.Track.{TrackedRegion, tracked_at}
use Rattle.cap_owners_spec.specs.Filling.{names_in}
use Rattle.cap_owners_spec.specs.Walks.{Walk, nothing_taken, Descent, descends, with_region, pass_shift, Interpreted, Interpreting, leaves, walk_below, Halt}
use Rattle.cap_owners_spec.specs.Steps.{closed_in_end, as_closed}
use Rattle.cap_owners_walks_laws.proofs.Values.More.{FitsSort}
use Rattle.cap_owners_walks_laws.proofs.Fills.Drawn.{IsMetBy, Tells}
use Rattle.cap_owners_walks_laws.proofs.Fills.Giving.{NamesFit}
use Rattle.cap_owners_walks_laws.proofs.Walks.Nodes.{left-children}
use Rattle.cap_owners_walks_laws.proofs.Passes.Rests.{into, told-region, below-wide}
use Rattle.cap_owners_walks_laws.proofs.Passes.Gives.{GoesTo}
use Rattle.cap_owners_walks_laws.proofs.Regions.Landing.{Lands, lands, node-lands}
use Rattle.cap_owners_walks_laws.proofs.Regions.Regiven.{AreSorted}
use Rattle.cap_owners_walks_laws.proofs.Regions.Remet.{leaves-there}
use Rattle.cap_owners_walks_laws.proofs.Regions.Shifts.{shut_region, shut_walk, shift-so, shift-wide}
use Rattle.cap_owners_walks_laws.proofs.Passes.Takes.{AreNameTerms}
use Rattle.cap_owners_walks_laws.proofs.Regions.Stills.{named_by, StillTo, stills}
use Rattle.cap_owners_walks_laws.proofs.Regions.Telling.{ToldSo, told-here, told-same, tracked-number, put-here}

-- ---- over one node

-- where the walk goes below a node whose choice leaves these goals
pub passes-below :
    (enter : Interpreting) (p : Checked) (ks : PlainTrees) (gs hs : List PlainGoal)
    (o : Traced Descent) (w : Walk) → gs ≡ hs → ToldSo (λ d. d ≡ descends (Some 0) w) o →
    GoesTo (walk_below enter p.program false ks gs o) (into enter p.program ks hs w)
passes-below enter p ks gs hs o w same h = elim h [
  | inl wide ↦
      inl (ap (walk_below enter p.program false ks gs) wide
      ∙ below-wide enter p.program false ks gs)
  | inr d ↦
      inr (ap (walk_below enter p.program false ks gs) (d.1 ∙ ap traced d.2)
      ∙ ap (λ us. into enter p.program ks us w) same)
]

-- ---- the region is closed as it was

may-stay : (m : ℕ) (k : PlainRegionType) → may_move false m k ≡ true → m ≡ 0
may-stay m k e =
    let q : (m == 0) ≡ true = second (nat_le m (length k.actions)) (m == 0) e in
    grind (arith, nat_tests, q)
  where
    second : (x z : Bool) → (x && z) ≡ true → z ≡ true
    second true z e = e
    second false z e = absurd (cc)

-- what the region has, by the table: in this case, met by this fill
pub record RegionMet (p : Checked) (U : Table) (n : ℤ) (k : ℕ) (args : List ℤ) (b : ℤ) (h : Stock)
    (x : Interpreted) : Type 0 where
  pub own : OwnsRegion p.program U n k args b h
  pub number : own.number ≡ x.case
  pub met : IsMetBy p.program U own.values own.case.items h own.met.0 own.met.1 x.fill
  pub fits : NamesFit (region_scope own.type own.case.names) x.fill.names
  pub sorted : AreSorted (region_sorts own.type own.case.names) x.fill.names

-- ---- values of a case's names

-- as many values as sorts, each of its sort
pub sorted-names :
    (os : List Sort) (ns : List NameValue) → length ns ≡ length os →
    ((x : ℕ) (o : Sort) → slice_get os x ≡ Some o → FitsSort o (value_at ns x)) → AreSorted os ns
sorted-names [] [] e f = tt
sorted-names [] (n ∷ ns) e f = absurd (omega (arith, e))
sorted-names (o ∷ os) [] e f = absurd (omega (arith, e))
sorted-names (o ∷ os) (n ∷ ns) e f =
    (f 0 o refl, sorted-names os ns (omega (arith, e)) (λ x q i. f (suc x) q i))

all-known : (n : ℕ) → map Some (replicate n Int) ≡ whole_numbers n
all-known zero = refl
all-known (suc n) = ap (λ sc. Some Int ∷ sc) (all-known n)

pub known-sort :
    (y : PlainRegionType) (names : List Sort) (x : ℕ) (o : Sort) →
    slice_get (region_sorts y names) x ≡ Some o → HasSort (region_scope y names) o x
known-sort y names x o e =
    ap (λ sc. slice_get sc x)
    (sym (map-join Some (replicate y.params Int) names
    ∙ ap (λ sc. sc ++ known names) (all-known y.params)))
    ∙ map-at Some (region_sorts y names) x o e

module _ (p : Checked) (wf : IsWellFormed p.program) (U : Table) (h : Stock)
    (room : FitsRoom p.program U h) (n : ℤ) (k : ℕ) (args : List ℤ) (b : ℤ) (there : U n ≡ Some (known_as k args (Some b)))
    (vs : List NameValue) (s : PlainState) (known : IsKnown p.program [] U (valuation vs) s h)
    (sorted : AreSorted s.sorts vs) (heap : Heap)
    (within : (a z : ℤ) → h.cells a z ≤ cells_of heap a z) (enter : Interpreting) (w : Walk)
    (tells : Tells w.regions U) where
  -- the opened region's fact, and its type
  abbrev pub Told : PlainFact → Type 0
  Told f =
      Says (valuation vs) f n k args b
      × (y : PlainRegionType) × Movable p.program [] s f y

  abbrev Met : Interpreted → Type 0
  Met = RegionMet p U n k args b h

  module _ (o cn m : ℕ) (kids : PlainTrees) (N : NodePredicate)
      (q : Picked p.program N [] s o cn m 0 false [] kids)
      (says : Says (valuation vs) q.f n k args b)
      (t : StillTo p [] U (region_scope q.k q.x.names) (length s.envs) vs h
      (env_added s (region_env q.f q.names)) q.x.items
      (to_shift o cn m (length s.envs) 0 ∷ [])) where
    abbrev e : ℕ
    e = length s.envs

    abbrev sc : Scope
    sc = region_scope q.k q.x.names

    over-old : AllOver (Old s) q.f
    over-old =
        let R = Usable [] s.sorts Int in
        let old = usable-old [] s.sorts Int in (
          vars-more R (Old s) old q.f.region.parts q.movable.over.0,
          all-more (Over R) (Over (Old s)) (λ u i. vars-more R (Old s) old u.parts i) q.f.args
              q.movable.over.1,
          vars-more R (Old s) old q.f.state.parts q.movable.over.2,
        )

    now : Says (valuation t.values) q.f n k args b
    now =
        says-alike (Old s) (valuation vs) (valuation t.values) t.follows.alike q.f over-old n k args
        b says

    movable : Movable p.program [] t.after q.f q.k
    movable =
        movable-on p.program [] [] s t.after q.f q.k
        (usable-on [] s.sorts t.after.sorts t.follows.goes_on.sorts Int) q.movable

    opened : slice_get t.after.opened o ≡ Some q.f
    opened = ap (λ fs. slice_get fs o) t.follows.goes_on.opened ∙ q.is_opened

    -- the region as it is tracked
    here :
        (r : TrackedRegion) × (tracked_at w.regions n ≡ Some r) × (r.owned.region.state ≡ b)
    here = told-region w.regions U n k args b tells there

    module _ (ns : List NameValue)
        (is_ns : names_in t.values (env_at t.after (length s.envs)) ≡ traced ns) where
      abbrev shut : Walk
      shut =
          shut_walk t.after q.f here.0 cn q.x t.top ns
          (record w { values = t.values; taken = t.top ∷ w.taken })

      abbrev found_then : Interpreted
      found_then = record { case = cn; fill = named_by ns t.top.fill }

      closes-so : closed_in_end n (leaves shut) ≡ traced found_then
      closes-so =
          let r = shut_region here.0 cn q.x t.top ns in
          let number : here.0.owned.region.number ≡ n = tracked-number w.regions n here.0 here.1 in
          ap (λ z. closed_in_end z (leaves shut)) (sym number)
          ∙ ap (λ (x : Traced TrackedRegion). x >>= λ y. traced (as_closed y))
          (found-eq (tracked_at (with_region r w.regions) here.0.owned.region.number) r
          (put-here r w.regions))
        where
          found-eq :
              (x : Option TrackedRegion) (y : TrackedRegion) → x ≡ Some y →
              found x ≡ traced y
          found-eq x y i = ap found i

      shift-told :
          ToldSo (λ d. d ≡ descends (Some 0) shut)
          (pass_shift p.program t.after o cn e t.top
          (record w { values = t.values; taken = t.top ∷ w.taken }))
      shift-told =
          shift-so p.program t.after o cn e t.top
          (record w { values = t.values; taken = t.top ∷ w.taken }) q.f q.k q.x here.0 ns opened
          q.movable.is_type q.is_case (ap (tracked_at w.regions) now.region_is ∙ here.1)
          (inr (ns, is_ns, refl))

      -- rule `shift`, once the case is taken
      module _ (cs : List Cert) (spans : List ℕ) (below : PlainTrees) (none : m ≡ 0)
          (hd : p.N (node (by_shift cs spans) below) t.after
          (to_shift o cn m (length s.envs) 0 ∷ [])) where
        abbrev G : List PlainGoal
        G = goals_left p.program (goal t.after (to_shift o cn m (length s.envs) 0 ∷ []))
            (by_shift cs spans)

        abbrev M : NodePredicate
        M = Lands p.N G

        sh : Shifted M [] (valuation t.values) t.after spans o m (length s.envs) q.f q.k q.x []
            below
        sh =
            shifted p.program M [] (valuation t.values) t.after t.ready.grounded.meets spans o cn m
            e [] below q.f q.k q.x opened q.is_case movable t.ready.placed
            (none-other [] (valuation t.values) U t.after q.f (Some b) t.ready.facts
            (says-known (valuation t.values) U q.f n k args b now there))
            (node-lands p (by_shift cs spans) below t.after (to_shift o cn m e 0 ∷ []) hd)

        keeps :
            (value (valuation t.values).whole sh.new ≡ value (valuation t.values).whole q.f.state)
            × Open M below (closed_state t.after o (with_state q.f sh.new)) []
        keeps =
            kept-says p.program [] (valuation t.values) t.after t.ready.grounded.meets q.f q.k
            movable
            sh.new sh.over (λ u. Open M below (closed_state t.after o (with_state q.f sh.new)) [])
            spans
            (subst (λ i. Comes (prove_move q.k t.after q.f sh.new i spans)
            (λ u. Open M below (closed_state t.after o (with_state q.f sh.new)) [])) none sh.moves)

        none-left : G ≡ []
        none-left =
            (lands p.N G below (closed_state t.after o (with_state q.f sh.new)) []
            (left-children p (by_shift cs spans) below
            (goal t.after (to_shift o cn m e 0 ∷ [])) hd) keeps.1).0

        first : env_at (env_added s (region_env q.f q.names)) (length s.envs)
            ≡ region_env q.f q.names
        first = get-or-push s.envs (region_env q.f q.names) []

        abbrev owned : OwnsRegion p.program U n k args b h
        owned =
            let X = valuation ns in
            let v = valuation t.values in
            let size = map-length (value v.whole) q.f.args in
            let same = ap length now.args_are in
            let count = q.movable.arity in
            record {
              type = q.k;
              is_type = ap (slice_get p.program.regions) (sym now.kind_is) ∙ q.movable.is_type;
              arity = omega (arith, size, same, count);
              number = cn;
              case = q.x;
              is_case = q.is_case;
              values = X;
              args_are =
                  subst (λ zs. AreWhole X 0 (n ∷ zs)) now.args_are
                  (subst (λ z. AreWhole X 0 (z ∷ map (value v.whole) q.f.args)) now.region_is
                  (region-whole q.k q.x.names q.f v X q.names q.movable.arity
                  (subst (λ u. Means sc v u X) first
                  (means-earlier sc v X (env_at (env_added s (region_env q.f q.names)) e)
                  (env_at t.after e) t.follows.stays (t.by_names ns is_ns).means))));
              state_is = sym (sh.state_is X (t.by_names ns is_ns).means) ∙ keeps.0 ∙ now.state_is;
              conditions = sh.conditions X (t.by_names ns is_ns).means;
              met = (t.by_names ns is_ns).owns;
            }

        all-sorted : AreSorted (region_sorts q.k q.x.names) ns
        all-sorted =
            let size = t.counted ns is_ns ∙ t.follows.size ∙ ap length first in
            let args_then = length-join (bound q.f.args) q.names in
            let bound_then = map-length Some q.f.args in
            let params = rep-length q.k.params Int in
            let all = length-join (replicate q.k.params Int) q.x.names in
            let count = q.size in
            let arity = q.movable.arity in
            sorted-names (region_sorts q.k q.x.names) ns
            (omega (arith, size, args_then, bound_then, params, all, count, arity))
            (λ x o i. (t.by_names ns is_ns).fits o x (known-sort q.k q.x.names x o i))

        met-so : Met found_then
        met-so = record {
          own = owned;
          number = refl;
          met = (t.by_names ns is_ns).met;
          fits = (t.by_names ns is_ns).fits;
          sorted = all-sorted;
        }

        shifts-so :
            ToldSo Met
            (into enter p.program (tree (node (by_shift cs spans) below) no_trees)
            (goal t.after (to_shift o cn m (length s.envs) 0 ∷ []) ∷ [])
            (record w { values = t.values; taken = t.top ∷ w.taken })
            >>= closed_in_end n)
        shifts-so =
            elim (passes-below enter p below G []
            (pass_shift p.program t.after o cn e t.top
            (record w { values = t.values; taken = t.top ∷ w.taken })) shut none-left shift-told) [
              | inl wide ↦ inl (ap (λ x. x >>= closed_in_end n) wide)
              | inr on ↦
                  told-same Met
                  (into enter p.program (tree (node (by_shift cs spans) below) no_trees)
                  (goal t.after (to_shift o cn m (length s.envs) 0 ∷ []) ∷ [])
                  (record w { values = t.values; taken = t.top ∷ w.taken })
                  >>= closed_in_end n)
                  (traced found_then)
                  (ap (λ x. x >>= closed_in_end n) (on ∙ leaves-there enter p below shut)
                  ∙ closes-so) (told-here Met found_then met-so)
            ]

    -- where the names are too wide, so is the walk
    module _ (cs : List Cert) (spans : List ℕ) (below : PlainTrees)
        (hd : p.N (node (by_shift cs spans) below) t.after
        (to_shift o cn m (length s.envs) 0 ∷ [])) (none : m ≡ 0) where
      abbrev there_then : Traced Halt
      there_then =
          into enter p.program (tree (node (by_shift cs spans) below) no_trees)
          (goal t.after (to_shift o cn m (length s.envs) 0 ∷ []) ∷ [])
          (record w { values = t.values; taken = t.top ∷ w.taken })

      by-names :
          (k : Traced (List NameValue)) →
          names_in t.values (env_at t.after (length s.envs)) ≡ k →
          ToldSo Met (there_then >>= closed_in_end n)
      by-names (traced ns) e = shifts-so ns e cs spans below none hd
      by-names untold e = absurd (t.told e)
      by-names past_width e =
          let G = goals_left p.program (goal t.after (to_shift o cn m (length s.envs) 0 ∷ []))
          (by_shift cs spans) in
          inl (ap (λ x. x >>= closed_in_end n)
          (ap (walk_below enter p.program false below G)
          (shift-wide p.program t.after o cn (length s.envs) t.top
          (record w { values = t.values; taken = t.top ∷ w.taken }) q.f q.k q.x here.0 opened
          q.movable.is_type q.is_case (ap (tracked_at w.regions) now.region_is ∙ here.1) e)
          ∙ below-wide enter p.program false below G))

    shift-node :
        (d : PlainTree) → p.N d t.after (to_shift o cn m (length s.envs) 0 ∷ []) → m ≡ 0 →
        ToldSo Met
        (into enter p.program (tree d no_trees)
        (goal t.after (to_shift o cn m (length s.envs) 0 ∷ []) ∷ [])
        (record w { values = t.values; taken = t.top ∷ w.taken })
        >>= closed_in_end n)
    shift-node (node (by_absurd x) below) hd none =
        absurd ((p.step hd).0.0 (valuation t.values)
        (solves [] (valuation t.values) t.after t.ready.grounded.meets))
    shift-node (node (by_shift cs spans) below) hd none =
        by-names cs spans below hd none (names_in t.values (env_at t.after (length s.envs))) refl
    shift-node d hd none = absurd (p.step hd).1

  -- rule `pick`, and its case taken
  pub pick-node :
      AllByRecursion Told s.opened → (d : PlainTree) → p.N d s (to_close false 0 ∷ []) →
      ToldSo (RegionMet p U n k args b h)
      (into enter p.program (tree d no_trees) (goal s (to_close false 0 ∷ []) ∷ [])
      (record w { values = vs })
      >>= closed_in_end n)
  pick-node told (node (by_absurd x) kids) hd =
      absurd ((p.step hd).0.0 (valuation vs) (solves [] (valuation vs) s known.grounded.meets))
  pick-node told (node (by_pick o cn m) kids) hd =
      let pp = p.program in
      let c = by_pick o cn m in
      let e = length s.envs in
      let G = goals_left pp (goal s (to_close false 0 ∷ [])) c in
      let M = Lands p.N G in
      let q = picked pp M [] s o cn m 0 false [] kids
      (λ f i. let r = all-at Told s.opened o f told i in (r.1, r.2))
      (node-lands p c kids s (to_close false 0 ∷ []) hd) in
      let says = (all-at Told s.opened o q.f told q.is_opened).0 in
      let env = region_env q.f q.names in
      let start = env_added s env in
      let sc = region_scope q.k q.x.names in
      let fits = all-at (CaseFits pp q.k) q.k.cases cn q.x q.movable.fits.cases q.is_case in
      let last : env_at start e ≡ env = get-or-push s.envs env [] in
      let size = push-length s.envs env in
      let tasks = to_shift o cn m e 0 ∷ [] in
      let now = known-envs pp [] U (valuation vs) s h start.envs known in
      let land = lands p.N G kids start (take_and_shift s q.x o cn m 0 false [])
      (left-children p c kids (goal s (to_close false 0 ∷ [])) hd) q.goes in
      let R = Usable [] s.sorts Int in
      let alone : AreNameTerms start.sorts (env_at start e) =
      λ x t g. inr (vars-more R (λ y. slice_get s.sorts y ≡ Some Int) (λ y i. i.0) t.parts
      (bound-over R env
      (region-env-over R q.f q.names q.movable.over.0 q.movable.over.1 q.over) x t
      (ap (λ es. term_of es x) (sym last) ∙ g))) in
      let begin = ap (λ gs. into enter pp kids gs
      (record w { values = vs; taken = nothing_taken ∷ w.taken }) >>= closed_in_end n) land.0 in
      elim (stills p wf.regions [] U sc e 0 q.x.items tasks kids vs start h land.1
      (state-at pp [] U sc e (valuation vs) start h now (omega (arith, size))
      (subst (Placed [] sc s.sorts) (sym last) q.placed)) tt fits.items.items now.backed room sorted
      alone heap within) [
        | inl wide ↦ inl (begin ∙ ap (λ x. x >>= closed_in_end n) (wide enter w))
        | inr t ↦
            let d = lone-child p.N t.0.children t.0.after tasks t.0.goes in
            told-same (RegionMet p U n k args b h)
            (into enter p.program (tree (node c kids) no_trees)
            (goal s (to_close false 0 ∷ []) ∷ []) (record w { values = vs })
            >>= closed_in_end n)
            (into enter p.program (tree d.0 no_trees) (goal t.0.after tasks ∷ [])
            (record w { values = t.0.values; taken = t.0.top ∷ w.taken })
            >>= closed_in_end n)
            (begin ∙ ap (λ x. x >>= closed_in_end n) (t.1 enter w)
            ∙ ap (λ ks. into enter p.program ks (goal t.0.after tasks ∷ [])
            (record w { values = t.0.values; taken = t.0.top ∷ w.taken })
            >>= closed_in_end n) d.2)
            (shift-node o cn m kids M q says t.0 d.0 d.1 (may-stay m q.k q.may))
      ]
  pick-node told d hd = absurd (p.step hd).1
