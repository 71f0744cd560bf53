-- By what a contract or an invariant is met by now: by what it was, while its regions are in the
-- same states, and else along the tree of its stability. So a frame is given just what it has.
use Rattle.std.proofs.Common.{◌≡◌, inr, ℕ, ◌+◌, ℤ, Bool, true, false, List, [], ◌∷◌, length, Option, Some, None, refl, sym, ap, ◌∙◌, subst, arith, ◌≤◌}
use Rattle.std.specs.Prelude.{if◌then◌else◌}
use Rattle.std.specs.List.{AllByRecursion}
use Rattle.cap_lin.specs.Linear.{Linear, variable}
use Rattle.cap_lin.specs.Values.{Valuation}
use Rattle.cap_lin.specs.declared.row.Sort.TheVariants.{Int}
use Rattle.cap_prog.specs.Program.{Items, none, item, PlainAssertion, PlainFunction, PlainProgram}
use Rattle.cap_prog.specs.Scopes.{Scope, fixed_start, result_name, requires_scope, ensures_scope, invariant_scope}
use Rattle.cap_prog.specs.WellFormed.{IsWellFormed}
use Rattle.cap_machine.specs.Machine.{Heap}
use Rattle.cap_machine_accounts.specs.Assertions.{NameValue, ValuesFit}
use Rattle.cap_goal_spec.specs.Terms.{variables_from}
use Rattle.cap_goal_spec.specs.States.{PlainEnv, Home, to_give, to_take, to_rest, goals_of}
use Rattle.cap_goal_spec.specs.Environments.{unbound}
use Rattle.cap_goal_spec.specs.Choices.{PlainTree, no_trees, tree}
use Rattle.cap_account_resources.specs.Parts.{cells_of, Table}
use Rattle.cap_account_resources.proofs.Stocks.{Stock}
use Rattle.cap_account_states.specs.Nodes.{Open}
use Rattle.cap_account_states.proofs.Checked.{Checked}
use Rattle.cap_account_states.proofs.Items.{AreFit}
use Rattle.cap_account_states.proofs.Meets.{Usable}
use Rattle.cap_account_states.proofs.Naming.{Means}
use Rattle.cap_account_states.proofs.Roots.{Root, sorts_of, root_names, flat-bound}
use Rattle.cap_account_states.proofs.Scopes.{result-ensures, own-result, variables-length, variables-at, rep-length}
use Rattle.cap_account_states.proofs.Terms.{Over}
use Rattle.cap_account_assertions.proofs.Again.{NamesKept}
use Rattle.cap_account_assertions.proofs.Asserted.{DrawsAll, OwnsRequires, OwnsEnsures, OwnsInvariant}
use Rattle.cap_account_assertions.proofs.Laws.{Reached}
use Rattle.cap_account_steps.proofs.Entries.{entry_root, exit_root, loop_root}
use Rattle.cap_account_steps.proofs.RootNames.{LocalsBound, whole-kept, fixed-kept, root_start}
use Rattle.cap_owners_spec.specs.Traced.{Traced, traced, ◌>>=◌, valuation}
use Rattle.cap_owners_spec.specs.Track.{Fill, Place, TrackedRegion, GivenAssertion}
use Rattle.cap_owners_spec.specs.Walks.{no_items}
use Rattle.cap_owners_spec.specs.Steps.{Proved, filled_again, fill_now}
use Rattle.cap_owners_walks_laws.proofs.Fills.Drawn.{items_told, IsMetOr, Tells}
use Rattle.cap_owners_walks_laws.proofs.Fills.Giving.{NamesFit}
use Rattle.cap_owners_walks_laws.proofs.Fills.Still.{KeepsTypes, is_known, current-known, known-met-or}
use Rattle.cap_owners_walks_laws.proofs.Regions.Regiven.{AreSorted}
use Rattle.cap_owners_walks_laws.proofs.Regions.Remet.{MetAgain}
use Rattle.cap_owners_walks_laws.proofs.Regions.Refilled.{refilled}
use Rattle.cap_owners_walks_laws.proofs.Regions.Reowned.{met-moved}
use Rattle.cap_owners_walks_laws.proofs.Regions.Telling.{ToldFor, for-more, for-on}

-- names are kept where they are the same
same-kept : (sc : Scope) (env : PlainEnv) (a : Valuation) → NamesKept sc env a a
same-kept sc env a = record { whole = λ x i b. refl; share = λ x i b. refl }

-- without items no facts are told
told-none :
    (p : PlainProgram) (T : Table) (a : Valuation) (items : Items) → no_items items ≡ true →
    (q r : Stock) (d : DrawsAll p T a items q r) → items_told p T a items q r d ≡ []
told-none p T a none e q r d = refl
told-none p T a (item i more) e q r d = absurd (cc)

-- ---- the tree of a root

-- where a root's assertion, which has items, is given and taken again
pub record RootTree (p : Checked) (root : Root) (items : Items) (store : List Linear) (q : Place)
    : Type 0 where
  pub goes :
      Open p.N (tree q.tree no_trees) (root_start root store)
      (to_give items 0 0 ∷ to_rest 0 0 ∷ to_take items 1 0 0 ∷ [])
  pub is_goal :
      goals_of (root_start root store)
      (to_give items 0 0 ∷ to_rest 0 0 ∷ to_take items 1 0 0 ∷ [])
      ≡ q.goal ∷ []
  pub over : AllByRecursion (Over (Usable [] (sorts_of root.f root.l root.rs) Int)) store

module _ (p : Checked) (wf : IsWellFormed p.program)
    (trees : List (Option PlainTree)) (T U : Table) (h : Stock) (heap : Heap)
    (within : (a z : ℤ) → h.cells a z ≤ cells_of heap a z) (reached : Reached p.program T U h)
    (g : GivenAssertion) where
  abbrev d : Proved
  d = record { program = p.program; trees = trees }

  -- what it comes to by whichever regions
  abbrev pub Filling : List TrackedRegion → Traced (Option Fill)
  Filling rs = fill_now (record { program = p.program; trees = trees }) rs (Some g)

  module _ (r : Stock) (root : Root) (items : Items) (fits : AreFit p.program root.sc items)
      (ok : NamesFit root.sc g.fill.names) (k : DrawsAll p.program T root.a items h r)
      (met : IsMetOr p.program T root.a items h r k g.fill) (store : List Linear)
      (means : no_items items ≡ false →
      Means root.sc (valuation g.values) (root_names root) (valuation g.fill.names))
      (sorted : AreSorted (sorts_of root.f root.l root.rs) g.values)
      (rooted : no_items items ≡ false →
      (q : Place) × (g.stability ≡ Some q) × RootTree p root items store q) where
    -- met so by the later table, and the names that the root knows have their values
    pub record MetNow (x : Fill) : Type 0 where
      pub a : Valuation
      pub kept : NamesKept root.sc (root_names root) root.a a
      pub rest : Stock
      pub drawn : DrawsAll p.program U a items h rest
      pub meets : IsMetOr p.program U a items h rest drawn x
      pub fitting : NamesFit root.sc x.names

    keeps : KeepsTypes T U
    keeps m j zs c e = let q = reached.relies m j zs c e in (q.0, q.2)

    still-met : is_known U g.fill ≡ true → MetNow g.fill
    still-met e =
        let m = known-met-or T U keeps p.program root.a items h r k g.fill met e in
        record {
          a = root.a;
          kept = same-kept root.sc (root_names root) root.a;
          rest = r;
          drawn = m.drawn;
          meets = m.met;
          fitting = ok;
        }

    none-current : no_items items ≡ true → is_known U g.fill ≡ true
    none-current e =
        ap (λ xs. is_known U (record g.fill { facts = xs }))
        (sym met.facts ∙ told-none p.program T root.a items e h r k)

    again :
        no_items items ≡ false →
        ToldFor U MetNow
        (λ rs. filled_again (record { program = p.program; trees = trees }) rs g g.stability)
    again some =
        let q = rooted some in
        let same = met.names some in
        let n = met-moved p.program T root.a (valuation g.fill.names) items h r g.fill same k
        (record { names = same; wildcards = met.wildcards; facts = met.facts }) in
        let at = refilled p wf trees T U h r heap within reached root g.fill ok items some fits n.0
        n.1.wildcards store q.2.over g.values (means some) sorted q.0 q.2.goes q.2.is_goal g refl
        refl in
        subst (λ o. ToldFor U MetNow (λ rs. filled_again d rs g o)) (sym q.1)
        (for-more U (MetAgain p U h root.sc items (root_start root store) g.fill) MetNow
        (λ rs. filled_again d rs g (Some q.0))
        (λ x m. record {
          a = valuation x.names;
          kept =
              subst (λ u. NamesKept root.sc (root_names root) u (valuation x.names))
              (sym same) m.kept;
          rest = m.owns.0;
          drawn = m.owns.1;
          meets = record {
            names = λ i. m.met.names;
            wildcards = m.met.wildcards;
            facts = m.met.facts;
          };
          fitting = m.fits;
        }) at)

    -- by whether it is current
    filling :
        (b : Bool) → is_known U g.fill ≡ b → (rs : List TrackedRegion) → Tells rs U →
        Filling rs
        ≡ ((if b then traced g.fill else filled_again (record {
          program = p.program;
          trees = trees;
        }) rs g g.stability)
        >>= λ f. traced (Some f))
    filling b e rs tells =
        ap (λ t. (if t then traced g.fill else filled_again d rs g g.stability)
        >>= λ f. traced (Some f)) (current-known rs U tells g.fill ∙ e)

    now-by :
        (t : Bool) → is_known U g.fill ≡ t → (n : Bool) → no_items items ≡ n →
        ToldFor U (λ o. (x : Fill) × (o ≡ Some x) × MetNow x) Filling
    now-by true e n i =
        inr (Some g.fill, (g.fill, refl, still-met e), (λ rs tells. inr (filling true e rs tells)))
    now-by false e true i = absurd (let q = none-current i in differ (sym q ∙ e))
      where
        differ : true ≡ false → ⊥
        differ e = cc
    now-by false e false i =
        for-on U MetNow (λ o. (x : Fill) × (o ≡ Some x) × MetNow x)
        (λ rs. filled_again d rs g g.stability) Filling (λ f. Some f)
        (λ rs tells. filling false e rs tells) (λ x m. (x, refl, m)) (again i)

    -- by what it is met by now
    pub filled-now : ToldFor U (λ o. (x : Fill) × (o ≡ Some x) × MetNow x) Filling
    filled-now = now-by (is_known U g.fill) refl (no_items items) refl

  -- ---- contracts and invariants

  -- what is handed over to a callee
  pub record RequiresNow (f : PlainFunction) (args : List ℤ) (fixed : List NameValue)
      (o : Option Fill) : Type 0 where
    pub fill : Fill
    pub is : o ≡ Some fill
    pub own : OwnsRequires p.program U h f args fixed
    pub met : IsMetOr p.program U own.values f.requires h own.met.0 own.met.1 fill
    pub fits : NamesFit (requires_scope f) fill.names

  pub requires-now :
      (n : ℕ) (f : PlainFunction) (args : List ℤ) (fixed : List NameValue) →
      length args ≡ f.params → ValuesFit f.fixed fixed →
      AreFit p.program (requires_scope f) f.requires →
      (own : OwnsRequires p.program T h f args fixed) →
      IsMetOr p.program T own.values f.requires h own.met.0 own.met.1 g.fill →
      NamesFit (requires_scope f) g.fill.names → (store : List Linear) →
      (no_items f.requires ≡ false →
      Means (requires_scope f) (valuation g.values) (root_names (entry_root f n own.values))
      (valuation g.fill.names)) →
      AreSorted (sorts_of f 0 []) g.values →
      (no_items f.requires ≡ false →
      (q : Place) × (g.stability ≡ Some q)
      × RootTree p (entry_root f n own.values) f.requires store q) →
      ToldFor U (RequiresNow f args fixed) Filling
  requires-now n f args fixed size fit fits own met ok store means sorted rooted =
      let root = entry_root f n own.values in
      let P = λ (o : Option Fill).
      (x : Fill) × (o ≡ Some x)
      × MetNow own.met.0 root f.requires fits ok own.met.1 met store means sorted rooted x in
      for-more U P (RequiresNow f args fixed) Filling
      (λ o m.
      let k = m.2 in
      record {
        fill = m.0;
        is = m.1;
        own = record {
          values = k.a;
          args_are =
              whole-kept root k.a k.kept (λ i l. absurd (omega (arith, l))) args
              (omega (arith, size)) own.args_are;
          fixed_are = fixed-kept root k.a k.kept fixed fit own.fixed_are;
          met = (k.rest, k.drawn);
        };
        met = k.meets;
        fits = k.fitting;
      })
      (filled-now own.met.0 root f.requires fits ok own.met.1 met store means sorted rooted)

  -- what is handed over to a caller
  pub record EnsuresNow (f : PlainFunction) (args : List ℤ) (fixed : List NameValue) (v : ℤ)
      (o : Option Fill) : Type 0 where
    pub fill : Fill
    pub is : o ≡ Some fill
    pub own : OwnsEnsures p.program U h f args fixed v
    pub met : IsMetOr p.program U own.values f.ensures.items h own.met.0 own.met.1 fill
    pub fits : NamesFit (ensures_scope f f.ensures.names) fill.names

  pub ensures-now :
      (n : ℕ) (f : PlainFunction) (args : List ℤ) (fixed : List NameValue) (v : ℤ) →
      length args ≡ f.params → ValuesFit f.fixed fixed →
      AreFit p.program (ensures_scope f f.ensures.names) f.ensures.items →
      (own : OwnsEnsures p.program T h f args fixed v) →
      IsMetOr p.program T own.values f.ensures.items h own.met.0 own.met.1 g.fill →
      NamesFit (ensures_scope f f.ensures.names) g.fill.names → (store : List Linear) →
      (no_items f.ensures.items ≡ false →
      Means (ensures_scope f f.ensures.names) (valuation g.values)
      (root_names (exit_root f n f.ensures.names own.values)) (valuation g.fill.names)) →
      AreSorted (sorts_of f 0 (Int ∷ [])) g.values →
      (no_items f.ensures.items ≡ false →
      (q : Place) × (g.stability ≡ Some q)
      × RootTree p (exit_root f n f.ensures.names own.values) f.ensures.items store q) →
      ToldFor U (EnsuresNow f args fixed v) Filling
  ensures-now n f args fixed v size fit fits own met ok store means sorted rooted =
      let new = f.ensures.names in
      let root = exit_root f n new own.values in
      let home : Home = record { function = n; fixed = f.params + 0 } in
      let last = variable (f.params + 0 + length f.fixed) in
      let P = λ (o : Option Fill).
      (x : Fill) × (o ≡ Some x)
      × MetNow own.met.0 root f.ensures.items fits ok own.met.1 met store means sorted rooted x in
      for-more U P (EnsuresNow f args fixed v) Filling
      (λ o m.
      let k = m.2 in
      record {
        fill = m.0;
        is = m.1;
        own = record {
          values = k.a;
          args_are =
              whole-kept root k.a k.kept (λ i l. absurd (omega (arith, l))) args
              (omega (arith, size)) own.args_are;
          fixed_are = fixed-kept root k.a k.kept fixed fit own.fixed_are;
          result_is =
              k.kept.whole (result_name f) (result-ensures f new) (
                last,
                own-result f home (variables_from 0 f.params) (unbound f.locals) (Some last)
                    (length new) (variables-length 0 f.params) (rep-length f.locals None),
              )
              ∙ own.result_is;
          met = (k.rest, k.drawn);
        };
        met = k.meets;
        fits = k.fitting;
      })
      (filled-now own.met.0 root f.ensures.items fits ok own.met.1 met store means sorted rooted)

  -- what a loop's frame has
  pub record InvariantNow (f : PlainFunction) (i : PlainAssertion) (store : List ℤ)
      (fixed : List NameValue) (o : Option Fill) : Type 0 where
    pub fill : Fill
    pub is : o ≡ Some fill
    pub own : OwnsInvariant p.program U h f store fixed i
    pub met : IsMetOr p.program U own.values i.items h own.met.0 own.met.1 fill
    pub fits : NamesFit (invariant_scope f i.names) fill.names

  pub invariant-now :
      (n : ℕ) (f : PlainFunction) (i : PlainAssertion) (at : List ℤ) (fixed : List NameValue) →
      length at ≡ fixed_start f → ValuesFit f.fixed fixed →
      AreFit p.program (invariant_scope f i.names) i.items →
      (own : OwnsInvariant p.program T h f at fixed i) →
      IsMetOr p.program T own.values i.items h own.met.0 own.met.1 g.fill →
      NamesFit (invariant_scope f i.names) g.fill.names → (store : List Linear) →
      (no_items i.items ≡ false →
      Means (invariant_scope f i.names) (valuation g.values)
      (root_names (loop_root f n i.names own.values)) (valuation g.fill.names)) →
      AreSorted (sorts_of f f.locals []) g.values →
      (no_items i.items ≡ false →
      (q : Place) × (g.stability ≡ Some q)
      × RootTree p (loop_root f n i.names own.values) i.items store q) →
      ToldFor U (InvariantNow f i at fixed) Filling
  invariant-now n f i at fixed size fit fits own met ok store means sorted rooted =
      let root = loop_root f n i.names own.values in
      let known : LocalsBound root = λ j l. (
        variable (f.params + j),
        flat-bound (variables_from f.params f.locals) j ∙ variables-at f.params f.locals j l,
      ) in
      let P = λ (o : Option Fill).
      (x : Fill) × (o ≡ Some x)
      × MetNow own.met.0 root i.items fits ok own.met.1 met store means sorted rooted x in
      for-more U P (InvariantNow f i at fixed) Filling
      (λ o m.
      let k = m.2 in
      record {
        fill = m.0;
        is = m.1;
        own = record {
          values = k.a;
          store_is =
              whole-kept root k.a k.kept known at (omega (arith, size)) own.store_is;
          fixed_are = fixed-kept root k.a k.kept fixed fit own.fixed_are;
          met = (k.rest, k.drawn);
        };
        met = k.meets;
        fits = k.fitting;
      })
      (filled-now own.met.0 root i.items fits ok own.met.1 met store means sorted rooted)
