-- By what a region owns its part by now: as it was closed, or along the tree of its case.
use Rattle.std.proofs.Common.{◌≡◌, inl, inr, ℕ, suc, ◌-◌, ◌<◌, ℤ, ◌*ℤ◌, Bool, true, false, List, [], ◌∷◌, length, map, Option, Some, None, refl, sym, ap, ◌∙◌, subst, arith, ◌≤◌}
use Rattle.std.specs.Prelude.{slice_get, if◌then◌else◌}
use Rattle.std.specs.List.{AllByRecursion}
use Rattle.cap_lin.specs.Values.{Valuation, denominator, value}
use Rattle.cap_lin.specs.declared.row.Sort.{Sort}
use Rattle.cap_lin.specs.declared.row.Sort.TheVariants.{Int, Perm}
use Rattle.cap_prog.specs.Program.{Items, PlainCase, PlainRegionType, PlainProgram}
use Rattle.cap_prog.specs.Scopes.{Scope, region_scope, region_sorts}
use Rattle.cap_prog.specs.WellFormed.{IsWellFormed, CaseFits, RegionFits}
use Rattle.cap_machine.specs.Machine.{Heap}
use Rattle.cap_machine_accounts.specs.Assertions.{NameValue, a_number, a_fraction, AreWhole, CompHolds}
use Rattle.cap_goal_spec.specs.Terms.{variables_from}
use Rattle.cap_goal_spec.specs.States.{PlainState, to_give, to_rest, to_close, PlainGoal, goal, goal_of, goals_of}
use Rattle.cap_goal_spec.specs.Choices.{PlainTree, PlainTrees, no_trees, tree}
use Rattle.cap_goal_spec.specs.Roots.{region_unit, case_fact, case_state}
use Rattle.cap_rules.specs.Making.{env_at}
use Rattle.cap_account_resources.specs.Parts.{cells_of, known_as, Table}
use Rattle.cap_account_resources.proofs.Lists.{all-at}
use Rattle.cap_account_resources.proofs.Stocks.{Stock, no_stock}
use Rattle.cap_account_resources.proofs.Tables.{fits-relied}
use Rattle.cap_account_states.specs.Nodes.{Open}
use Rattle.cap_account_states.proofs.Alike.{agree-alike}
use Rattle.cap_account_states.proofs.Backed.{IsOpened, Backed}
use Rattle.cap_account_states.proofs.Checked.{Checked, lone-child}
use Rattle.cap_account_states.proofs.Meets.{Usable, usable-on, usable-old, Old, variable-value}
use Rattle.cap_account_states.proofs.Naming.{Means}
use Rattle.cap_account_states.proofs.Roots.{variables-values, variables-over}
use Rattle.cap_account_states.proofs.Scopes.{variables-length}
use Rattle.cap_account_states.proofs.Terms.{Over, vars-more}
use Rattle.cap_account_states.proofs.Values.{normal}
use Rattle.cap_account_resources.proofs.Lists.{all-more}
use Rattle.cap_account_assertions.proofs.Asserted.{DrawsAll, OwnsRegion}
use Rattle.cap_account_assertions.proofs.FreshRegions.{IsKnown}
use Rattle.cap_account_assertions.proofs.Laws.{StateAt, Reached}
use Rattle.cap_account_assertions.proofs.MadeRegions.{param-sort}
use Rattle.cap_account_steps.proofs.CaseRoots.{case-term, sort-known, case-means, case-at, case-backed}
use Rattle.cap_account_steps.proofs.Moves.{Movable, movable-on}
use Rattle.cap_account_steps.proofs.StableRegions.{Says, says-alike, says-known}
use Rattle.cap_account_steps.proofs.Worlds.{AllOver}
use Rattle.cap_owners_spec.specs.Traced.{traced, ◌>>=◌, found, over, number_of, numerator_of, value_at, valuation}
use Rattle.cap_owners_spec.specs.Track.{Fill, Place, TrackedRegion}
use Rattle.cap_owners_spec.specs.Walks.{no_items, Interpreted, walk}
use Rattle.cap_owners_spec.specs.Steps.{root_at, is_current, beginning, none_entered, as_closed, closed_in_end, interpreted, interpreted_again}
use Rattle.cap_owners_walks_laws.proofs.Values.More.{FitsSort}
use Rattle.cap_owners_walks_laws.proofs.Fills.Drawn.{items_met, IsMetBy, Tells}
use Rattle.cap_owners_walks_laws.proofs.Fills.Giving.{NamesFit}
use Rattle.cap_owners_walks_laws.proofs.Fills.Still.{KeepsTypes, current-met}
use Rattle.cap_owners_walks_laws.proofs.Passes.Rests.{into}
use Rattle.cap_owners_walks_laws.proofs.Regions.Regiven.{AreSorted, Regiven, given-again}
use Rattle.cap_owners_walks_laws.proofs.Regions.Reshut.{RegionMet, Told, pick-node}
use Rattle.cap_owners_walks_laws.proofs.Regions.Telling.{ToldSo, told-here, told-same, told-known, found-so}

-- ---- values of names

-- whole numbers are fractions too
pub normal-fits :
    (sc : Scope) (ns : List NameValue) → NamesFit sc ns → normal sc (valuation ns) ≡ valuation ns
normal-fits sc ns ok i = record {
  whole = λ x. number_of (value_at ns x);
  fraction = record { numerator = λ x. same x (slice_get sc x) refl i; under = over - 1 };
}
  where
    is-whole :
        (y : NameValue) → FitsSort Int y →
        number_of y *ℤ denominator (valuation ns).fraction ≡ numerator_of y
    is-whole (a_number z) h = refl
    is-whole (a_fraction n d) h = absurd h

    same :
        (x : ℕ) (o : Option (Option Sort)) → slice_get sc x ≡ o →
        (normal sc (valuation ns)).fraction.numerator x ≡ numerator_of (value_at ns x)
    same x None e = rw e refl
    same x (Some None) e = rw e refl
    same x (Some (Some Perm)) e = rw e refl
    same x (Some (Some Int)) e = rw e (is-whole (value_at ns x) (ok Int x e))

-- ---- the root of a case

-- its place among the roots, and that the tree there is of its goal
pub record CaseRooted (p : Checked) (trees : List (Option PlainTree)) (k : ℕ)
    (y : PlainRegionType) (i : ℕ) (c : PlainCase) : Type 0 where
  pub place : Place
  pub is_root :
      root_at (record { program = p.program; trees = trees }) (region_unit k) i ≡ Some place
  pub goes :
      Open p.N (tree place.tree no_trees) (case_state y k c)
      (to_give c.items 0 0 ∷ to_rest 0 0 ∷ to_close false 0 ∷ [])
  pub is_goal :
      goals_of (case_state y k c) (to_give c.items 0 0 ∷ to_rest 0 0 ∷ to_close false 0 ∷ [])
      ≡ place.goal ∷ []

module _ (p : Checked) (y : PlainRegionType) (k : ℕ) (c : PlainCase)
    (is : slice_get p.program.regions k ≡ Some y) (type_fits : RegionFits p.program y)
    (fits : CaseFits p.program y c) (f : Fill)
    (ok : NamesFit (region_scope y c.names) f.names) (n : ℤ) (args : List ℤ) (b : ℤ)
    (arity : y.params ≡ suc (length args)) (are : AreWhole (valuation f.names) 0 (n ∷ args))
    (state : value (valuation f.names).whole c.state ≡ b) where
  abbrev s : PlainState
  s = case_state y k c

  abbrev sc : Scope
  sc = region_scope y c.names

  abbrev v : Valuation
  v = valuation f.names

  fact-says : Says (valuation f.names) (case_fact y k c) n k args b
  fact-says = record {
    region_is = variable-value v 0 ∙ are.0;
    kind_is = refl;
    args_are =
        (let size : y.params - 1 ≡ length args = omega (arith, arity) in
        ap (λ m. map (value v.whole) (variables_from 1 m)) size ∙ variables-values v 1 args are.1);
    state_is = state;
  }

  fact-movable : Movable p.program [] (case_state y k c) (case_fact y k c) y
  fact-movable =
      let low : (i : ℕ) → i < y.params → Usable [] s.sorts Int i =
      λ i l. (sort-known y c.names Int i (param-sort y c.names i l), tt) in
      let some = type_fits.itself in
      record {
        over = (
          (low 0 some, tt),
          variables-over (Usable [] s.sorts Int) 1 (y.params - 1)
              (λ i x l. low i (omega (arith, l, some))),
          case-term y c.names Int c.state fits.state,
        );
        is_type = is;
        fits = type_fits;
        arity = (let size = variables-length 1 (y.params - 1) in omega (arith, size, some));
      }

  fact-over : AllOver (Old (case_state y k c)) (case_fact y k c)
  fact-over =
      let R = Usable [] s.sorts Int in
      let old = usable-old [] s.sorts Int in
      let g = case_fact y k c in (
        vars-more R (Old s) old g.region.parts fact-movable.over.0,
        all-more (Over R) (Over (Old s)) (λ u o. vars-more R (Old s) old u.parts o) g.args
            fact-movable.over.1,
        vars-more R (Old s) old g.state.parts fact-movable.over.2,
      )

  module _ (wf : IsWellFormed p.program) (T U : Table)
      (h r : Stock) (heap : Heap) (within : (a z : ℤ) → h.cells a z ≤ cells_of heap a z)
      (reached : Reached p.program T U h) (before : T n ≡ Some (known_as k args (Some b)))
      (after : U n ≡ Some (known_as k args (Some b)))
      (d : DrawsAll p.program T (valuation f.names) c.items h r)
      (met : items_met p.program T (valuation f.names) c.items h r d ≡ f.wildcards)
      (when : AllByRecursion (CompHolds (valuation f.names)) c.when)
      (sorted : AreSorted (region_sorts y c.names) f.names) (trees : PlainTrees)
      (goes : Open p.N trees (case_state y k c)
      (to_give c.items 0 0 ∷ to_rest 0 0 ∷ to_close false 0 ∷ [])) where
    pub remains :
        (t : PlainState) → (g : PlainGoal) × (goal_of t (to_close false 0 ∷ []) ≡ Some g)
    remains t = (goal t (to_close false 0 ∷ []), refl)

    abbrev GivenHere : Type 0
    GivenHere =
        Regiven p wf T U (region_scope y c.names) f ok h r reached c.items
        (to_close false 0 ∷ []) remains trees f.names (case_state y k c)

    given-here : GivenHere
    given-here =
        let pp = p.program in
        let same = normal-fits sc f.names ok in
        given-again p wf T U sc f ok h r reached c.items (to_close false 0 ∷ []) remains trees
        f.names s goes
        (subst (λ u. StateAt pp [] T sc 0 u s) same
        (case-at pp y k c v fits T (known_as k args (Some b)) type_fits.itself (ap T are.0 ∙ before)
        when)) tt (subst (λ u. Means sc u (env_at s 0) v) same (case-means pp y k c v fits))
        fits.items.items d met
        (subst (λ u. Backed pp u s no_stock) same (case-backed pp y k c v fits)) sorted

    module _ (g : GivenHere) where
      later : Says (valuation g.values) (case_fact y k c) n k args b
      later =
          says-alike (Old s) v (valuation g.values)
          (agree-alike (Old s) v (valuation g.values) g.agree) (case_fact y k c) fact-over n k args
          b fact-says

      movable : Movable p.program [] g.after (case_fact y k c) y
      movable =
          movable-on p.program [] [] s g.after (case_fact y k c) y
          (usable-on [] s.sorts g.after.sorts g.goes_on.sorts Int) fact-movable

      known : IsKnown p.program [] U (valuation g.values) g.after h
      known = record {
        grounded = g.grounded;
        facts = g.facts;
        opened =
            subst (AllByRecursion (IsOpened (Usable [] g.after.sorts Int) (valuation g.values) U))
            (sym g.goes_on.opened) (
              (
                movable.over.0,
                known_as k (map (value (valuation g.values).whole) (case_fact y k c).args) (Some b),
                says-known (valuation g.values) U (case_fact y k c) n k args b later after,
              ),
              tt,
            );
        backed = g.backed;
      }

      -- a walk from the root ends in a case that what the region has meets
      pub walk-owns :
          (q : Place) → trees ≡ tree q.tree no_trees →
          goals_of (case_state y k c) (to_give c.items 0 0 ∷ to_rest 0 0 ∷ to_close false 0 ∷ [])
          ≡ q.goal ∷ [] →
          (rs : List TrackedRegion) → Tells rs U →
          ToldSo (RegionMet p U n k args b h)
          (walk none_entered p.program false q.tree q.goal (beginning rs f.names [] (Some f) [])
          >>= closed_in_end n)
      walk-owns q is_tree is_goal rs tells =
          let pp = p.program in
          let start = beginning rs f.names [] (Some f) [] in
          let given_then = record start { fill = if no_items c.items then Some f else None } in
          let room = fits-relied pp T U h reached.full reached.relies reached.room in
          let tasks = to_close false 0 ∷ [] in
          let child = lone-child p.N g.children g.after tasks g.goes in
          let enters : walk none_entered pp false q.tree q.goal start
          ≡ into none_entered pp trees
          (goals_of s (to_give c.items 0 0 ∷ to_rest 0 0 ∷ to_close false 0 ∷ [])) start =
          λ i. into none_entered pp (sym is_tree i) (sym is_goal i) start in
          elim (g.walks none_entered start tells) [
            | inl wide ↦ inl (ap (λ x. x >>= closed_in_end n) (enters ∙ wide))
            | inr on ↦
                told-same (RegionMet p U n k args b h)
                (walk none_entered pp false q.tree q.goal start >>= closed_in_end n)
                (into none_entered pp (tree child.0 no_trees) (goal g.after tasks ∷ [])
                (record given_then { values = g.values })
                >>= closed_in_end n)
                (ap (λ x. x >>= closed_in_end n)
                (enters ∙ on
                ∙ ap (λ ks. into none_entered pp ks (goal g.after tasks ∷ [])
                (record given_then { values = g.values })) child.2))
                (pick-node p wf U h room n k args b after g.values g.after known g.sorted heap
                within none_entered given_then tells
                (subst (AllByRecursion (Told p wf U h room n k args b after g.values g.after
                known g.sorted heap within none_entered given_then tells))
                (sym g.goes_on.opened) ((later, y, movable), tt)) child.0 child.1)
          ]

    pub root-owns :
        (q : Place) → trees ≡ tree q.tree no_trees →
        goals_of (case_state y k c) (to_give c.items 0 0 ∷ to_rest 0 0 ∷ to_close false 0 ∷ [])
        ≡ q.goal ∷ [] →
        (rs : List TrackedRegion) → Tells rs U →
        ToldSo (RegionMet p U n k args b h)
        (walk none_entered p.program false q.tree q.goal (beginning rs f.names [] (Some f) [])
        >>= closed_in_end n)
    root-owns = walk-owns given-here

-- ---- the law

-- met at values is met at the same values
pub met-moved :
    (p : PlainProgram) (T : Table) (a b : Valuation) (items : Items) (q r : Stock) (f : Fill) →
    a ≡ b → (d : DrawsAll p T a items q r) → IsMetBy p T a items q r d f →
    (k : DrawsAll p T b items q r) × IsMetBy p T b items q r k f
met-moved p T a b items q r f e d m =
    subst (λ u. (k : DrawsAll p T u items q r) × IsMetBy p T u items q r k f) e (d, m)

-- A region that is owned by a table from which others led: the case and the fill that a walk comes
-- to are those by which it owns its part by this table.
module _ (p : Checked) (wf : IsWellFormed p.program)
    (trees : List (Option PlainTree)) (T U : Table) (r : TrackedRegion) (h : Stock) (heap : Heap)
    (within : (a z : ℤ) → h.cells a z ≤ cells_of heap a z) (reached : Reached p.program T U h)
    (before : T r.owned.region.number
    ≡ Some (known_as r.owned.region.kind r.owned.region.args (Some r.owned.region.state)))
    (after : U r.owned.region.number
    ≡ Some (known_as r.owned.region.kind r.owned.region.args (Some r.owned.region.state)))
    (own : OwnsRegion p.program T r.owned.region.number r.owned.region.kind r.owned.region.args
    r.owned.region.state h)
    (number : own.number ≡ r.case)
    (met : IsMetBy p.program T own.values own.case.items h own.met.0 own.met.1 r.fill)
    (ok : NamesFit (region_scope own.type own.case.names) r.fill.names)
    (sorted : AreSorted (region_sorts own.type own.case.names) r.fill.names)
    (root : CaseRooted p trees r.owned.region.kind own.type r.case own.case)
    (rs : List TrackedRegion) (tells : Tells rs U) where
  abbrev n : ℤ
  n = r.owned.region.number

  abbrev k : ℕ
  k = r.owned.region.kind

  abbrev args : List ℤ
  args = r.owned.region.args

  abbrev b : ℤ
  b = r.owned.region.state

  abbrev Q : Interpreted → Type 0
  Q = RegionMet p U n k args b h

  keeps : KeepsTypes T U
  keeps m j zs c e = let q = reached.relies m j zs c e in (q.0, q.2)

  still-owned : is_current rs r.fill ≡ true → Q (as_closed r)
  still-owned e =
      let m = current-met T U keeps rs tells p.program own.values own.case.items h own.met.0
      own.met.1 r.fill met e in
      record {
        own = record {
          type = own.type;
          is_type = own.is_type;
          arity = own.arity;
          number = own.number;
          case = own.case;
          is_case = own.is_case;
          values = own.values;
          args_are = own.args_are;
          state_is = own.state_is;
          conditions = own.conditions;
          met = (own.met.0, m.drawn);
        };
        number = number;
        met = m.met;
        fits = ok;
        sorted = sorted;
      }

  again : ToldSo Q (interpreted_again (record { program = p.program; trees = trees }) rs r)
  again =
      let type_fits = all-at (RegionFits p.program) p.program.regions k own.type wf.regions
      own.is_type in
      let fits = all-at (CaseFits p.program own.type) own.type.cases own.number own.case
      type_fits.cases own.is_case in
      let drawn = met-moved p.program T own.values (valuation r.fill.names) own.case.items h
      own.met.0 r.fill met.names own.met.1 met in
      told-known Q
      (found (root_at (record { program = p.program; trees = trees }) (region_unit k) r.case))
      root.place _
      (found-so
      (root_at (record { program = p.program; trees = trees }) (region_unit k) r.case) root.place
      root.is_root)
      (root-owns p own.type k own.case own.is_type type_fits fits r.fill ok n args b own.arity
      (subst (λ u. AreWhole u 0 (n ∷ args)) met.names own.args_are)
      (ap (λ (u : Valuation). value u.whole own.case.state) (sym met.names) ∙ own.state_is) wf
      T U h own.met.0 heap within reached before after drawn.0 drawn.1.wildcards
      (subst (λ u. AllByRecursion (CompHolds u) own.case.when) met.names own.conditions) sorted
      (tree root.place.tree no_trees) root.goes root.place refl root.is_goal rs tells)

  owned-by :
      (t : Bool) → is_current rs r.fill ≡ t →
      ToldSo Q (interpreted (record { program = p.program; trees = trees }) rs r)
  owned-by true e =
      told-same Q (interpreted (record { program = p.program; trees = trees }) rs r)
      (traced (as_closed r))
      (ap (λ t. if t then traced (as_closed r)
      else interpreted_again (record { program = p.program; trees = trees }) rs r) e)
      (told-here Q (as_closed r) (still-owned e))
  owned-by false e =
      told-same Q (interpreted (record { program = p.program; trees = trees }) rs r)
      (interpreted_again (record { program = p.program; trees = trees }) rs r)
      (ap (λ t. if t then traced (as_closed r)
      else interpreted_again (record { program = p.program; trees = trees }) rs r) e) again

  pub owned-so :
      ToldSo (RegionMet p U r.owned.region.number r.owned.region.kind r.owned.region.args
      r.owned.region.state h) (interpreted (record { program = p.program; trees = trees }) rs r)
  owned-so = owned-by (is_current rs r.fill) refl
