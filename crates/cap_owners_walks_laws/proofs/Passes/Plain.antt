-- Items that a walk takes in one step: comparisons, cells, and guards of which no token is taken.
use Rattle.std.proofs.Common.{◌≡◌, ◌⊎◌, inl, inr, ℕ, ◌+◌, ℤ, pos, ◌*ℤ◌, List, [], ◌∷◌, Some, refl, sym, ap, ◌∙◌, subst, arith}
use Rattle.std.specs.Prelude.{slice_get, remove}
use Rattle.std.specs.FinMap.{insert}
use Rattle.cap_lin.specs.Linear.{Linear}
use Rattle.cap_lin.specs.Values.{value}
use Rattle.cap_lin.specs.declared.row.Sort.TheVariants.{Int}
use Rattle.cap_syntax.specs.declared.place.Place.{Place}
use Rattle.cap_farkas.specs.declared.cert.Cert.{Cert}
use Rattle.cap_prog.specs.declared.assertion.Comp.{Comp}
use Rattle.cap_prog.specs.declared.assertion.Slot.{Slot}
use Rattle.cap_prog.specs.Program.{PlainItem, compare, cell, Items, item}
use Rattle.cap_goal_spec.specs.States.{PlainState, to_take}
use Rattle.cap_goal_spec.specs.Choices.{PlainChoice, by_fact, by_cell, node, PlainTrees, no_trees, tree}
use Rattle.cap_goal_spec.specs.Environments.{reading}
use Rattle.cap_rules.specs.Making.{env_at}
use Rattle.cap_machine_accounts.specs.Parts.{Part}
use Rattle.cap_machine_accounts.specs.Assertions.{NameValue, a_number}
use Rattle.cap_account_resources.specs.Parts.{cells_of, Table}
use Rattle.cap_account_resources.proofs.Lists.{join-nil}
use Rattle.cap_account_resources.proofs.Covering.{free-right}
use Rattle.cap_account_resources.proofs.Interference.{Holding}
use Rattle.cap_account_resources.proofs.Stocks.{Stock, same-stock, both, cell_stock, none-right}
use Rattle.cap_account_states.proofs.Checked.{Checked}
use Rattle.cap_account_states.proofs.Items.{fits-more}
use Rattle.cap_account_states.proofs.Meets.{Usable, need}
use Rattle.cap_account_states.proofs.Naming.{values_in, at-env}
use Rattle.cap_account_states.proofs.Terms.{vars-more}
use Rattle.cap_account_assertions.proofs.TakeSteps.{Job, with_items, tasks_of}
use Rattle.cap_account_assertions.proofs.TakeComps.{compare-taken}
use Rattle.cap_account_states.proofs.Matching.{met_env}
use Rattle.cap_account_assertions.proofs.TakeCells.{need-apart, CellFound, AfterCell, cell-found, cell-goes}
use Rattle.cap_owners_spec.specs.Traced.{Traced, traced, past_width, untold, ◌>>=◌, found, over, valuation, number_in}
use Rattle.cap_owners_spec.specs.Filling.{names_in, met}
use Rattle.cap_owners_spec.specs.Walks.{Taking, Walk, on, taken_at, Interpreting, pass_item, pass_task}
use Rattle.cap_owners_walks_laws.proofs.Values.Numbers.{number-is}
use Rattle.cap_owners_walks_laws.proofs.Values.More.{number-told}
use Rattle.cap_owners_walks_laws.proofs.Fills.Drawn.{slot_met}
use Rattle.cap_owners_walks_laws.proofs.Walks.Leading.{node-leads}
use Rattle.cap_account.proofs.Stocked.{part_stock}
use Rattle.cap_owners_laws.specs.Owned.{IsTold}
use Rattle.cap_owners_walks_laws.proofs.Parts.Putting.{cells-told}
use Rattle.cap_owners_walks_laws.proofs.Passes.Bindings.{not-both, slot-int}
use Rattle.cap_owners_walks_laws.proofs.Passes.Names.{NamesSo, IsShaped, shaped-same, shares-met, int-only, IsValue, int-term, names-in-so, names-told, met-names, met-terms, slot_value, slot-value, met-wildcards, met-facts}
use Rattle.cap_owners_walks_laws.proofs.Passes.Takes.{IsNameTerm, AreNameTerms, TakesFrom, taking_on, IsWide}
use Rattle.cap_owners_walks_laws.proofs.Passes.Steps.{Step, node-wide, AtNode, Passed, item-step}

module _ (p : Checked) (ks : List ℕ) (T : Table) (next : ℤ) (lim : Holding) (j : Job)
    (vs : List NameValue) (s : PlainState) (c : Stock) (top : Taking) where
  -- what an item starts from
  abbrev pub Starting : Items → Type 0
  Starting items = TakesFrom p ks T next lim (with_items j items) vs (valuation vs) s c top.part

  abbrev pub Wide : Items → PlainTrees → Type 0
  Wide items trees = IsWide p ks next (with_items j items) trees vs s top

  abbrev pub Steps : Items → PlainTrees → Type 0
  Steps items trees =
      Step p ks T next (with_items j items) trees vs (valuation vs) s c top

  -- ---- the names' values at the head

  abbrev pub named_top : List NameValue → Taking
  named_top ns = record top { fill = record top.fill { names = ns } }

  module _ (i : PlainItem) (more : Items) (ch : PlainChoice) (kids : PlainTrees) where
    abbrev pub Passes : Type 0
    Passes =
        (enter : Interpreting) (w : Walk) →
        pass_task enter p.program s ch (to_take (item i more) j.env j.most j.statement) j.tasks w
        ≡ (taken_at s j.env w >>= λ t.
        pass_item p.program s ch i more j.env j.most j.statement j.tasks t w)

    -- the names' values come to these, or are too wide
    pub with-names :
        Passes → Starting (item i more) →
        ((ns : List NameValue) → NamesSo j.scope vs (env_at s j.env) ns →
        ((enter : Interpreting) (w : Walk) (under : List Taking) →
        pass_task enter p.program s ch (to_take (item i more) j.env j.most j.statement) j.tasks
        (taking_on p ks vs top under w)
        ≡ pass_item p.program s ch i more j.env j.most j.statement j.tasks (named_top ns)
        (taking_on p ks vs top under w)) →
        Wide (item i more) (tree (node ch kids) no_trees)
        ⊎ Steps (item i more) (tree (node ch kids) no_trees)) →
        Wide (item i more) (tree (node ch kids) no_trees)
        ⊎ Steps (item i more) (tree (node ch kids) no_trees)
    with-names unfolds f k = by (names_in vs (env_at s j.env)) refl
      where
        at :
            (enter : Interpreting) (w : Walk) (under : List Taking)
            (o : Traced (List NameValue)) → names_in vs (env_at s j.env) ≡ o →
            pass_task enter p.program s ch (to_take (item i more) j.env j.most j.statement) j.tasks
            (taking_on p ks vs top under w)
            ≡ ((o >>= λ ns. traced (named_top ns)) >>= λ t.
            pass_item p.program s ch i more j.env j.most j.statement j.tasks t
            (taking_on p ks vs top under w))
        at enter w under o q =
            unfolds enter (taking_on p ks vs top under w)
            ∙ ap (λ o. (o >>= λ ns. traced (named_top ns)) >>= λ t.
            pass_item p.program s ch i more j.env j.most j.statement j.tasks t
            (taking_on p ks vs top under w)) q

        by :
            (o : Traced (List NameValue)) → names_in vs (env_at s j.env) ≡ o →
            Wide (item i more) (tree (node ch kids) no_trees)
            ⊎ Steps (item i more) (tree (node ch kids) no_trees)
        by untold q = absurd (names-told vs s.sorts f.sorted (env_at s j.env) q)
        by past_width q =
            inl (λ seating enter w under below.
            node-wide p ks T next seating enter i more j ch kids s (taking_on p ks vs top under w)
            (at enter w under past_width q))
        by (traced ns) q =
            k ns
            (names-in-so vs s.sorts f.sorted ks j.scope (env_at s j.env) ns f.start.ready.placed
            f.terms q)
            (λ enter w under. at enter w under (traced ns) q)

  -- ---- a comparison

  pub compare-step :
      (cs : List Cert) (x : Comp) (more : Items) (kids : PlainTrees) →
      Starting (item (compare x) more) →
      p.N (node (by_fact cs) kids) s (tasks_of (with_items j (item (compare x) more))) →
      Wide (item (compare x) more) (tree (node (by_fact cs) kids) no_trees)
      ⊎ Steps (item (compare x) more) (tree (node (by_fact cs) kids) no_trees)
  compare-step cs x more kids f h =
      with-names (compare x) more (by_fact cs) kids (λ enter w. refl) f (λ ns so pass.
      let it = compare-taken p.program ks T (with_items j (item (compare x) more)) (valuation vs) s
      c f.start.ready f.start.backed
      (AtNode p ks T next j (compare x) more (by_fact cs) kids vs (valuation vs) s c top) x more
      f.start.fits.0
      (node-leads p (by_fact cs) kids s (tasks_of (with_items j (item (compare x) more))) h) in
      inr (item-step p ks T next j (compare x) more (by_fact cs) kids vs (valuation vs) s c top
      (fits-more p.program j.scope (compare x) more f.start.fits) [] it (record {
        values = vs;
        valued = refl;
        sorted = f.sorted;
        terms = f.terms;
        now = named_top ns;
        names = so.same;
        have = so.fits;
        binds_it = λ x has e. absurd (not-both e);
        shaped = shaped-same j.scope vs (env_at s j.env) (env_at s j.env) ns so (λ b. b);
        wildcards = [];
        facts = [];
        more_wildcards = sym (join-nil top.fill.wildcards);
        more_facts = sym (join-nil top.fill.facts);
        met = λ y l a m r under. (refl, refl);
        part = sym (none-right p.program (part_stock top.part));
        passes = pass;
      })))

  -- ---- a cell

  module _ (k : ℕ) (cs : List Cert) (place : Place) (x : Linear) (y : Slot) (more : Items)
      (kids : PlainTrees) (f : Starting (item (cell place x y) more)) where
    abbrev of_cell : Job
    of_cell = with_items j (item (cell place x y) more)

    abbrev Found : Type 0
    Found =
        CellFound ks j.scope (valuation vs) s j.env k x y
        (AfterCell p.program ks T (with_items j (item (cell place x y) more)) (valuation vs) s c
        f.start.ready f.start.backed
        (AtNode p ks T next j (cell place x y) more (by_cell k cs) kids vs (valuation vs) s c top)
        k more)

    abbrev cell_top : List NameValue → ℤ → ℤ → Taking
    cell_top ns a z = record {
      fill = met (reading (env_at s j.env) y) (a_number z) (record top.fill { names = ns });
      part = record top.part { cells = insert top.part.cells a z };
    }

    abbrev CellPasses : List NameValue → Type 0
    CellPasses ns =
        (enter : Interpreting) (w : Walk) (under : List Taking) →
        pass_task enter p.program s (by_cell k cs)
        (to_take (item (cell place x y) more) j.env j.most j.statement) j.tasks
        (taking_on p ks vs top under w)
        ≡ pass_item p.program s (by_cell k cs) (cell place x y) more j.env j.most j.statement
        j.tasks (named_top ns) (taking_on p ks vs top under w)

    -- by the numbers
    cell-by :
        (g : Found) (ns : List NameValue) → CellPasses ns → (enter : Interpreting) (w : Walk)
        (under : List Taking) (m n : Traced ℤ) → number_in vs g.cell_there.0 ≡ m →
        number_in vs g.cell_there.1 ≡ n →
        pass_task enter p.program s (by_cell k cs)
        (to_take (item (cell place x y) more) j.env j.most j.statement) j.tasks
        (taking_on p ks vs top under w)
        ≡ (m >>= λ a. n >>= λ z. on 0 (taking_on p ks vs (cell_top ns a z) under w))
    cell-by g ns pass enter w under m n em en =
        pass enter w under
        ∙ ap (λ o. found o >>= λ d. number_in vs d.0 >>= λ a. number_in vs d.1 >>= λ z.
        on 0 (taking_on p ks vs (cell_top ns a z) under w)) g.is_cell
        ∙ (λ i. em i >>= λ a. en i >>= λ z.
        on 0 (taking_on p ks vs (cell_top ns a z) under w))

    -- at these numbers
    cell-passed :
        (g : Found) (ns : List NameValue) → NamesSo j.scope vs (env_at s j.env) ns →
        CellPasses ns → (a z : ℤ) → number_in vs g.cell_there.0 ≡ traced a →
        number_in vs g.cell_there.1 ≡ traced z →
        ((b u : ℤ) →
        cells_of (insert top.part.cells a z) b u
        ≡ cells_of top.part.cells b u + need (valuation vs) (g.cell_there ∷ []) b u) →
        Passed p ks T next j (cell place x y) more (by_cell k cs) kids vs (valuation vs) s c top []
        (cell-goes p.program ks T of_cell (valuation vs) s c f.start.ready f.start.backed
        (AtNode p ks T next j (cell place x y) more (by_cell k cs) kids vs (valuation vs) s c top)
        k place x y more g)
    cell-passed g ns so pass a z ea ez put =
        let v = valuation vs in
        let d = g.cell_there in
        let env = env_at s j.env in
        let there = f.start.ready.there in
        let fill = record top.fill { names = ns } in
        let later = at-env (record s { cells = remove s.cells k }) j.env g.content.later there
        ∙ g.content.later_is in
        let zis = number-is vs d.1 z ez in
        let int = vars-more (Usable ks s.sorts Int) (λ x. slice_get s.sorts x ≡ Some Int)
        (λ x u. u.0) d.1.parts g.over.1 in
        let is : IsValue v d.1 (a_number z) = record {
          whole = sym zis;
          share = int-term s.sorts vs f.sorted d.1 int ∙ ap (λ u. u *ℤ pos over) (sym zis);
        } in
        let names = met-names ks j.scope s.sorts vs env Int y d.1 (a_number z) fill
        f.start.ready.placed f.start.fits.0.1 so is tt (λ e. int-only e) in
        record {
          values = vs;
          valued = refl;
          sorted = f.sorted;
          terms =
              subst (AreNameTerms s.sorts) (sym later)
              (met-terms (IsNameTerm s.sorts) env (reading env y) d.1 (inr int) f.terms);
          now = cell_top ns a z;
          names = ap (values_in v) later ∙ names.same;
          have = names.fits;
          binds_it = λ x has e. absurd (slot-int j.scope x y f.start.fits.0.1 has e);
          shaped =
              subst (λ e. IsShaped j.scope vs env vs e (cell_top ns a z).fill.names) (sym later)
              (shaped-same j.scope vs env (met_env env (reading env y) d.1)
              (cell_top ns a z).fill.names names
              (shares-met j.scope vs env Int y d.1 f.start.fits.0.1 (λ e. int-only e)));
          wildcards = slot_value y (a_number z);
          facts = [];
          more_wildcards = met-wildcards env y (a_number z) fill;
          more_facts = met-facts (reading env y) (a_number z) fill ∙ sym (join-nil top.fill.facts);
          met = λ u l b m r under. (ap (slot_met y) (sym zis) ∙ slot-value y z, refl);
          part =
              same-stock (part_stock (cell_top ns a z).part)
              (both p.program (part_stock top.part)
              (cell_stock (value v.whole d.0) (value v.whole d.1)))
              (λ b u. (let e = put b u in omega (arith, e)))
              (λ n. sym (free-right p.program ((part_stock top.part).guards n)));
          passes = λ enter w under.
              cell-by g ns pass enter w under (traced a) (traced z) ea ez;
        }

    cell-at :
        (g : Found) (ns : List NameValue) → NamesSo j.scope vs (env_at s j.env) ns →
        CellPasses ns → (m n : Traced ℤ) → number_in vs g.cell_there.0 ≡ m →
        number_in vs g.cell_there.1 ≡ n →
        IsTold (λ (r : Part). (r.guards ≡ top.part.guards)
        × ((b u : ℤ) → cells_of r.cells b u
        ≡ cells_of top.part.cells b u + need (valuation vs) (g.cell_there ∷ []) b u))
        (m >>= λ a. n >>= λ z. traced (record top.part { cells = insert top.part.cells a z })) →
        Wide (item (cell place x y) more) (tree (node (by_cell k cs) kids) no_trees)
        ⊎ Steps (item (cell place x y) more) (tree (node (by_cell k cs) kids) no_trees)
    cell-at g ns so pass past_width n em en put =
        inl (λ seating enter w under below.
        node-wide p ks T next seating enter (cell place x y) more j (by_cell k cs) kids s
        (taking_on p ks vs top under w)
        (cell-by g ns pass enter w under past_width n em en))
    cell-at g ns so pass (traced a) past_width em en put =
        inl (λ seating enter w under below.
        node-wide p ks T next seating enter (cell place x y) more j (by_cell k cs) kids s
        (taking_on p ks vs top under w)
        (cell-by g ns pass enter w under (traced a) past_width em en))
    cell-at g ns so pass untold n em en put = absurd (number-told vs g.cell_there.0 em)
    cell-at g ns so pass (traced a) untold em en put =
        absurd (number-told vs g.cell_there.1 en)
    cell-at g ns so pass (traced a) (traced z) em en put =
        inr (item-step p ks T next j (cell place x y) more (by_cell k cs) kids vs (valuation vs) s
        c top (fits-more p.program j.scope (cell place x y) more f.start.fits) []
        (cell-goes p.program ks T of_cell (valuation vs) s c f.start.ready f.start.backed
        (AtNode p ks T next j (cell place x y) more (by_cell k cs) kids vs (valuation vs) s c top)
        k place x y more g) (cell-passed g ns so pass a z em en put.1))

    pub cell-step :
        p.N (node (by_cell k cs) kids) s (tasks_of (with_items j (item (cell place x y) more))) →
        Wide (item (cell place x y) more) (tree (node (by_cell k cs) kids) no_trees)
        ⊎ Steps (item (cell place x y) more) (tree (node (by_cell k cs) kids) no_trees)
    cell-step h =
        with-names (cell place x y) more (by_cell k cs) kids (λ enter w. refl) f (λ ns so pass.
        let g = cell-found p.program ks T of_cell (valuation vs) s c f.start.ready f.start.backed
        (AtNode p ks T next j (cell place x y) more (by_cell k cs) kids vs (valuation vs) s c top)
        k x y more f.start.fits.0.0 f.start.fits.0.1
        (node-leads p (by_cell k cs) kids s (tasks_of of_cell) h) in
        cell-at g ns so pass (number_in vs g.cell_there.0) (number_in vs g.cell_there.1) refl refl
        (cells-told vs f.heap (g.cell_there ∷ []) top.part (λ b u.
        let n = need-apart (valuation vs) s.cells k g.cell_there g.is_cell b u in
        let m = f.start.backed.cells b u in
        let l = f.cells b u in omega (arith, n, m, l))))
