-- The state in which an opened region is in its case holds at its values, and what the region has
-- may be given to it.
use Rattle.cap_account_resources.proofs.Lists.{map-at, some-same, get-map, map-length, all-at, all-more, all-both, get-join, get-first, get-second, within}
use Rattle.std.proofs.Common.{◌≡◌, ℕ, suc, ◌+◌, List, [], ◌∷◌, length, map, arith, refl, sym, ap, ◌∙◌, subst, Some, true, inl, inr}
use Rattle.std.specs.Prelude.{slice_get}
use Rattle.std.specs.List.{AllByRecursion}
use Rattle.cap_lin.specs.Linear.{Linear}
use Rattle.cap_lin.specs.Values.{Valuation, value}
use Rattle.cap_lin.specs.Solves.{Holds, IsWholeAt}
use Rattle.cap_lin.specs.Rows.{row_of}
use Rattle.cap_lin.specs.declared.row.Sort.{Sort}
use Rattle.cap_lin.specs.declared.row.Sort.TheVariants.{Int}
use Rattle.cap_lin.specs.declared.row.Op.TheVariants.{Eq as Equal}
use Rattle.cap_lin.proofs.Rows.{row_of-means}
use Rattle.cap_prog.specs.declared.assertion.Comp.{Comp}
use Rattle.cap_prog.specs.Program.{PlainCase, PlainRegionType, PlainProgram}
use Rattle.cap_prog.specs.Scopes.{Scope, HasSort, CompFits, region_scope, whole_numbers, known}
use Rattle.cap_prog.specs.WellFormed.{CaseFits}
use Rattle.cap_goal_spec.specs.Terms.{variables_from}
use Rattle.cap_goal_spec.specs.States.{PlainFact, PlainEnv, PlainState}
use Rattle.cap_goal_spec.specs.Environments.{term_in, bound, is_determined}
use Rattle.cap_rules.specs.Closing.{case_names}
use Rattle.cap_machine_accounts.specs.Assertions.{CompHolds, AreWhole}
use Rattle.cap_account_states.proofs.Terms.{Over, RowOver, row-over, vars-more}
use Rattle.cap_account_states.proofs.Alike.{Alike, alike-trans, alike-less, meets-alike, scaled-alike, value-alike, whole-alike, positive-alike, rows-alike, comp-fits-alike, InScope}
use Rattle.cap_account_states.proofs.Attempts.{AreDetermined}
use Rattle.cap_account_states.proofs.Meets.{is-of, int-usable, Usable, usable-old, usable-on, CellOver, cell-more, row-more, Meets, Old}
use Rattle.cap_account_states.proofs.Naming.{Placed, Means, term-over, term-number, comp-over, comp-holds, comp-bound, bound-of}
use Rattle.cap_account_states.proofs.Scopes.{rep-length, length-join, variables-length}
use Rattle.cap_account_steps.proofs.Worlds.{AllOver}
use Rattle.cap_account_steps.proofs.CaseStates.{case_rows, case_state, comp_rows}
use Rattle.cap_account_steps.proofs.CaseValues.{NameOf, the_region, an_argument, a_name, name-of, case_values, names_values, entered_values, entered_names, entered-alike, entered-means, case-alike, case-is-whole, case-means}

-- a fact of a region that is in this case, as the values say
pub record IsInCase (p : PlainProgram) (v : Valuation) (s : PlainState) (f : PlainFact)
    (k : PlainRegionType) (c : PlainCase) (a : Valuation) : Type 0 where
  pub over : AllOver (Usable [] s.sorts Int) f
  pub arity : k.params ≡ suc (length f.args)
  pub fits : CaseFits p k c
  pub args_are : AreWhole a 0 (value v.whole f.region ∷ map (value v.whole) f.args)
  pub state_is : value a.whole c.state ≡ value v.whole f.state
  pub conditions : AllByRecursion (CompHolds a) c.when

module _ (p : PlainProgram) (v : Valuation) (s : PlainState) (f : PlainFact) (k : PlainRegionType)
    (c : PlainCase) (a : Valuation) (h : IsInCase p v s f k c a) (meets : Meets [] v s)
    (state_known : is_determined (case_names s f c) c.state ≡ true)
    (conditions_known : AllByRecursion (AreDetermined (case_names s f c)) c.when) where
  abbrev sc : Scope
  sc = region_scope k c.names

  abbrev pub w : Valuation
  w = case_values v a (length s.sorts) k.params (region_scope k c.names)

  abbrev pub names : Valuation
  names = names_values v a (length s.sorts) k.params (region_scope k c.names)

  abbrev t : PlainState
  t = case_state s f c

  abbrev env : PlainEnv
  env = case_names s f c

  pub alike : Alike (Old s) v w
  alike = case-alike v a (length s.sorts) k.params sc

  pub old-sorts : (x : ℕ) (o : Sort) → slice_get s.sorts x ≡ Some o → slice_get t.sorts x ≡ Some o
  old-sorts x o e = get-first s.sorts c.names x o e

  pub usable : (o : Sort) (x : ℕ) → Usable [] s.sorts o x → Usable [] t.sorts o x
  usable = usable-on [] s.sorts t.sorts old-sorts

  int-over : (u : Linear) → Over (Usable [] s.sorts Int) u → Over (Usable [] t.sorts Int) u
  int-over u o = vars-more (Usable [] s.sorts Int) (Usable [] t.sorts Int) (usable Int) u.parts o

  int-old : (u : Linear) → Over (Usable [] s.sorts Int) u → Over (Old s) u
  int-old u o = vars-more (Usable [] s.sorts Int) (Old s) (usable-old [] s.sorts Int) u.parts o

  pub means : Means sc w env names
  means =
      case-means v a (length s.sorts) k.params sc f k c.names refl refl h.arity
      (int-old f.region h.over.0)
      (all-more (Over (Usable [] s.sorts Int)) (Over (Old s)) int-old f.args h.over.1) h.args_are

  -- a case's own name has its sort in the scope
  own-sort : (j : ℕ) (o : Sort) → slice_get c.names j ≡ Some o → HasSort sc o (k.params + j)
  own-sort j o e =
      let n = rep-length k.params (Some Int) in
      ap (λ i. slice_get sc (i + j)) (sym n)
      ∙ get-second (whole_numbers k.params) (known c.names) j
      ∙ map-at Some c.names j o e

  -- and is a variable of it
  own-variable :
      (j x : ℕ) (o : Sort) → x ≡ suc (length f.args + j) → HasSort sc o x →
      slice_get t.sorts (length s.sorts + j) ≡ Some o
  own-variable j x o e i =
      let n = rep-length k.params (Some Int) in
      let arity = h.arity in
      let at : x ≡ length (whole_numbers k.params) + j = omega (arith, n, arity, e) in
      let q = get-map Some c.names j (Some o)
      (sym (get-second (whole_numbers k.params) (known c.names) j)
      ∙ ap (slice_get sc) (sym at)
      ∙ i) in
      get-second s.sorts c.names j ∙ q.1 ∙ ap Some (some-same q.0 o q.2)

  pub placed : Placed [] sc t.sorts env
  placed = record {
    room = λ x o i.
        (let q = within sc x (Some o) i in
        let n = rep-length k.params (Some Int) in
        let l = length-join (whole_numbers k.params) (known c.names) in
        let m = map-length Some c.names in
        let vars = variables-from-length in
        let arity = h.arity in
        omega (arith, q, n, l, m, vars, arity));
    over = λ x o i u e. on x o u i (name-of f (length s.sorts) (length c.names) x u e);
  }
    where
      variables-from-length : length env ≡ suc (length f.args + length c.names)
      variables-from-length =
          ap suc (length-join (bound f.args)
          (bound (variables_from (length s.sorts) (length c.names)))
          ∙ ap (λ n. n + length (bound (variables_from (length s.sorts) (length c.names))))
          (map-length Some f.args)
          ∙ ap (λ n. length f.args + n)
          (map-length Some (variables_from (length s.sorts) (length c.names))
          ∙ variables-length (length s.sorts) (length c.names)))

      as-sort : (o : Sort) (u : Linear) → Over (Usable [] s.sorts Int) u →
          Over (Usable [] t.sorts o) u
      as-sort o u l =
          vars-more (Usable [] t.sorts Int) (Usable [] t.sorts o) (int-usable [] t.sorts o) u.parts
          (int-over u l)

      on :
          (x : ℕ) (o : Sort) (u : Linear) → HasSort sc o x →
          NameOf f (length s.sorts) (length c.names) x u → Over (Usable [] t.sorts o) u
      on x o u i (the_region ex eu) =
          subst (Over (Usable [] t.sorts o)) (sym eu) (as-sort o f.region h.over.0)
      on x o u i (an_argument j ex eu) =
          as-sort o u (all-at (Over (Usable [] s.sorts Int)) f.args j u h.over.1 eu)
      on x o u i (a_name j ex low eu) =
          subst (Over (Usable [] t.sorts o)) (sym eu)
          ((is-of t.sorts o (length s.sorts + j) (own-variable j x o ex i), tt), tt)

  -- ---- rows

  conditions-hold : (cs : List Comp) → AllByRecursion (CompFits sc) cs →
      AllByRecursion (AreDetermined env) cs → AllByRecursion (CompHolds a) cs →
      AllByRecursion (Holds w) (comp_rows env cs)
  conditions-hold [] fit d h = tt
  conditions-hold (x ∷ cs) fit d h = (
    comp-holds sc w env names x x.op means fit.0 (comp-bound env x d.0)
        (comp-fits-alike sc a names (scaled-alike (InScope sc) v.fraction.under a) x fit.0 h.0),
    conditions-hold cs fit.1 d.1 h.1,
  )

  conditions-over : (cs : List Comp) → AllByRecursion (CompFits sc) cs →
      AllByRecursion (AreDetermined env) cs →
      AllByRecursion (RowOver (Usable [] t.sorts)) (comp_rows env cs)
  conditions-over [] fit d = tt
  conditions-over (x ∷ cs) fit d = (
    comp-over [] sc t.sorts env x x.op placed fit.0 (comp-bound env x d.0),
    conditions-over cs fit.1 d.1,
  )

  state-holds : Holds w (row_of f.state Equal (term_in env c.state) Int)
  state-holds =
      (row_of-means w f.state Equal (term_in env c.state) Int).1
      (value-alike (Old s) v w alike f.state (int-old f.state h.over.2)
      ∙ sym h.state_is
      ∙ sym (term-number sc w env names Int c.state means h.fits.state
      (bound-of env c.state.parts state_known)))

  state-over : RowOver (Usable [] t.sorts) (row_of f.state Equal (term_in env c.state) Int)
  state-over =
      row-over (Usable [] t.sorts) f.state Equal (term_in env c.state) Int
      (int-over f.state h.over.2)
      (term-over [] sc t.sorts env Int c.state placed h.fits.state
      (bound-of env c.state.parts state_known))

  sorted : (x : ℕ) → slice_get t.sorts x ≡ Some Int → IsWholeAt w x
  sorted x e = elim (get-join s.sorts c.names x Int e) [
    | inl old ↦ whole-alike (Old s) v w alike x (within s.sorts x Int old) (meets.sorted x old)
    | inr new ↦
        subst (IsWholeAt w) (sym new.1)
        (case-is-whole v a (length s.sorts) k.params sc new.0 (own-sort new.0 Int new.2))
  ]

  pub meets-case : Meets [] w t
  meets-case = record {
    sorted = sorted;
    rows = all-both (Holds w) s.rows (case_rows s f c)
        (rows-alike (Usable [] s.sorts) (Old s) v w (usable-old [] s.sorts) alike s.rows
        meets.rows_over meets.rows)
        (state-holds, conditions-hold c.when h.fits.when conditions_known h.conditions);
    rows_over = all-both (RowOver (Usable [] t.sorts)) s.rows (case_rows s f c)
        (all-more (RowOver (Usable [] s.sorts)) (RowOver (Usable [] t.sorts))
        (row-more (Usable [] s.sorts) (Usable [] t.sorts) usable) s.rows meets.rows_over)
        (state-over, conditions-over c.when h.fits.when conditions_known);
    cells_over = all-more (CellOver (Usable [] s.sorts)) (CellOver (Usable [] t.sorts))
        (cell-more (Usable [] s.sorts) (Usable [] t.sorts) usable) s.cells meets.cells_over;
    positive = positive-alike (Usable [] s.sorts) (Old s) v w (usable-old [] s.sorts Int) alike
        s.cells meets.cells_over meets.positive;
    store_over = all-more (Over (Usable [] s.sorts Int)) (Over (Usable [] t.sorts Int)) int-over
        s.store meets.store_over;
  }

  -- ---- over one denominator, where the region's is that of the state

  abbrev pub start : Valuation
  start = entered_values v a (length s.sorts) k.params (region_scope k c.names)

  start-near : (P : ℕ → Type 0) → Alike P w start
  start-near P =
      alike-less P (λ x. Unit {0}) w start (λ x i. tt)
      (entered-alike v a (length s.sorts) k.params sc)

  pub start-alike : Alike (Old s) v start
  start-alike = alike-trans (Old s) v w start alike (start-near (Old s))

  pub start-means :
      Means sc start env (entered_names v a (length s.sorts) k.params (region_scope k c.names))
  start-means = entered-means v a (length s.sorts) k.params sc env means

  pub start-meets : Meets [] start t
  start-meets = meets-alike [] w start t (start-near (Old t)) meets-case
