-- Comparisons and conditional items are taken: the rules `fact` and `cases`.
use Rattle.std.proofs.Common.{◌≡◌, ℕ, suc, ◌≤◌, ℤ, Bool, true, false, List, [], ◌++◌, arith, refl, sym, subst, inl, inr}
use Rattle.cap_lin.specs.Values.{Valuation}
use Rattle.cap_lin.specs.Solves.{value_by_sort, Holds, Relates}
use Rattle.cap_lin.specs.declared.row.Op.{Op}
use Rattle.cap_lin.proofs.Rows.{row_of-means}
use Rattle.cap_prog.specs.declared.assertion.Comp.{Comp}
use Rattle.cap_prog.specs.Program.{compare, choose, Items, item, append_items, PlainProgram}
use Rattle.cap_prog.specs.Parts.{all_items}
use Rattle.cap_prog.specs.Scopes.{CompFits}
use Rattle.cap_prog.specs.WellFormed.{ItemFits}
use Rattle.cap_goal_spec.specs.States.{PlainEnv, PlainState, PlainTask, PlainGoal, goals_of}
use Rattle.cap_goal_spec.specs.Environments.{term_in}
use Rattle.cap_goal_spec.specs.Choices.{PlainTrees}
use Rattle.cap_rules.specs.Attempts.{Attempt, unit, ◌>>=◌, prove}
use Rattle.cap_rules.specs.Making.{with_row, row_by, env_at, opposite}
use Rattle.cap_rules.specs.Rules.{goes, at_fact, at_cases}
use Rattle.cap_account_resources.specs.Parts.{Table}
use Rattle.cap_account_resources.proofs.Lists.{all-first, all-second}
use Rattle.cap_account_resources.proofs.Order.{relates-or, unmet-not}
use Rattle.cap_account_resources.proofs.Interference.{Holding}
use Rattle.cap_account_resources.proofs.Stocks.{Stock, no_stock, both, inside-second, inside-is, none-right}
use Rattle.cap_account_states.specs.Nodes.{Comes, Children, Open}
use Rattle.cap_account_states.proofs.Attempts.{after-prove, after-row, after-with-row, comp_row, row_added}
use Rattle.cap_account_states.proofs.Alike.{Alike, alike-same, row-alike}
use Rattle.cap_account_states.proofs.Brought.{brought-none}
use Rattle.cap_account_states.proofs.Meets.{Usable, usable-old, Old, meets-row, same-row, proved-holds}
use Rattle.cap_account_states.proofs.Checked.{Checked}
use Rattle.cap_account_states.proofs.Terms.{RowOver}
use Rattle.cap_account_states.proofs.Naming.{Means, CompBound, comp-over, comp-means, comp-bound}
use Rattle.cap_account_states.proofs.Items.{AreFit, fits-append, fits-more, fits-sides}
use Rattle.cap_account_states.proofs.Backed.{Backed}
use Rattle.cap_account_assertions.proofs.Asserted.{Draws, DrawsAll, draws-more, draws-apart}
use Rattle.cap_account_assertions.proofs.Laws.{StateAt}
use Rattle.cap_account_assertions.proofs.TreeSizes.{trees_size, trees-apart}
use Rattle.cap_account_assertions.proofs.TakeSteps.{Job, tasks_of, with_items, remaining, TakeStart, Took, TookLaw}
use Rattle.cap_account_assertions.proofs.TakeHeads.{head-same, head-kept, ItemTaken, ItemsTurned, took-turned}

module _ (p : PlainProgram) (ks : List ℕ) (T : Table) (j : Job) (v : Valuation) (s : PlainState)
    (c : Stock) (st : StateAt p ks T j.scope j.env v s) (backed : Backed p v s c)
    (P : List PlainGoal → Type 0) where
  abbrev env : PlainEnv
  env = env_at s j.env

  -- a row between terms of bound names holds exactly of the names' values
  pub row-said :
      (x : Comp) (op : Op) → CompFits j.scope x → CompBound env x → Holds v (comp_row env op x) →
      (w : Valuation) → Alike (Old s) v w → (a : Valuation) → Means j.scope w env a →
      Relates op (value_by_sort x.sort a x.left) (value_by_sort x.sort a x.right)
  row-said x op f b h w l a m =
      comp-means j.scope w env a x op m f b
      (row-alike (Usable ks s.sorts) (Old s) v w (usable-old ks s.sorts) l (comp_row env op x)
      (comp-over ks j.scope s.sorts env x op st.placed f b) h)

  abbrev pub compare-taken :
      (x : Comp) (more : Items) → CompFits j.scope x →
      Comes (at_fact s x (remaining j more)) P → ItemTaken p ks T j v s c P [] (compare x) more
  compare-taken x more f h =
      let end : Unit {0} → Attempt (List PlainGoal) = λ u. goes s (remaining j more) in
      let a = after-row env x.op x (λ row. prove s.rows row >>= end) P h in
      let b = after-prove s.rows (comp_row env x.op x) end P a.1 in
      let bd = comp-bound env x a.0 in
      let holds = proved-holds ks ks v s (comp_row env x.op x) st.grounded.meets b.0
      (comp-over ks j.scope s.sorts env x x.op st.placed f bd) in
      record {
        head = head-same p ks T j v s c st backed;
        claim = λ w l a m r.
            (row-said x x.op f bd holds w l a m, inside-second p no_stock r);
        goes = b.1.1;
      }

-- ---- conditional items

module _ (p : PlainProgram) (ks : List ℕ) (T : Table) (j : Job) (v : Valuation) (s : PlainState)
    (c : Stock) (st : StateAt p ks T j.scope j.env v s) (backed : Backed p v s c) (x : Comp)
    (y z more : Items) (is : j.items ≡ item (choose x y z) more) where
  abbrev pub choice_env : PlainEnv
  choice_env = env_at s j.env

  -- what is to be done where the comparison relates so
  abbrev pub side_state : Op → PlainState
  side_state op = row_added s (comp_row choice_env op x)

  abbrev pub side_tasks : Items → List PlainTask
  side_tasks side = tasks_of (with_items j (append_items side more))

  -- of which side this is, by the values
  abbrev pub side_op : Bool → Op
  side_op true = x.op
  side_op false = opposite x.op

  abbrev pub side_items : Bool → Items
  side_items true = y
  side_items false = z

  -- one side is taken with what is behind, and its row is known
  pub record SideTold (b : Bool) : Type 0 where
    pub holds : Holds v (comp_row choice_env (side_op b) x)
    pub says :
        (w : Valuation) → Alike (Old s) v w → (a : Valuation) → Means j.scope w choice_env a →
        Relates (side_op b) (value_by_sort x.sort a x.left) (value_by_sort x.sort a x.right)
    pub over : RowOver (Usable ks s.sorts) (comp_row choice_env (side_op b) x)
    pub fits : AreFit p j.scope (append_items (side_items b) more)

  -- where it relates so, what that side draws is drawn of the item
  abbrev pub side-drawn :
      (b : Bool) (U : Table) (a : Valuation) (q r : Stock) →
      Relates (side_op b) (value_by_sort x.sort a x.left) (value_by_sort x.sort a x.right) →
      DrawsAll p U a (side_items b) q r → Draws p U a (choose x y z) q r
  side-drawn true U a q r k i = inl (k, i)
  side-drawn false U a q r k i = inr (unmet-not x.op _ _ k, i)

  abbrev pub side-turned :
      (P : List PlainGoal → Type 0) (b : Bool) → SideTold b →
      P (goals_of (side_state (side_op b)) (side_tasks (side_items b))) →
      ItemsTurned p ks T j v s c P
  side-turned P b t goes =
      let row = comp_row choice_env (side_op b) x in
      record {
        head =
            head-kept p ks T j v s c st v (row_added s row) c no_stock (same-row s row)
            refl (alike-same (Old s) v) (brought-none s (row_added s row) v refl) (record {
              meets = meets-row ks v s row st.grounded.meets t.holds t.over;
              pieces_over = st.grounded.pieces_over;
              pieces_fit = st.grounded.pieces_fit;
            }) (record { cells = backed.cells; guards = backed.guards })
            (inside-is p (both p c no_stock) c (none-right p c));
        rest = append_items (side_items b) more;
        fits = t.fits;
        turns = λ U g w l a m q r d.
            let u = draws-apart p U a (side_items b) more q r d in
            subst (λ items. DrawsAll p U a items (both p no_stock q) r) (sym is) (
              u.0,
              draws-more p U a (choose x y z) q (both p no_stock q) u.0
                  (inside-second p no_stock q)
                  (side-drawn b U a q u.0 (t.says w l a m) u.1),
              u.2,
            );
        goes = goes;
      }

  -- what rule `cases` comes to: goals for both sides, of which one is by the values
  pub record SidesFound (P : List PlainGoal → Type 0) : Type 0 where
    pub side : Bool
    pub told : SideTold side
    pub goes :
        P (goals_of (side_state x.op) (side_tasks y)
        ++ goals_of (side_state (opposite x.op)) (side_tasks z))

  side-told :
      (b : Bool) → CompFits j.scope x → CompBound choice_env x →
      Relates (side_op b) (value_by_sort x.sort v (term_in choice_env x.left))
      (value_by_sort x.sort v (term_in choice_env x.right)) →
      AreFit p j.scope (append_items (side_items b) more) → SideTold b
  side-told b f bd m fits =
      let op = side_op b in
      let holds = (row_of-means v (term_in choice_env x.left) op (term_in choice_env x.right)
      x.sort).1 m in
      record {
        holds = holds;
        says = row-said p ks T j v s c st backed (λ gs. Unit {0}) x op f bd holds;
        over = comp-over ks j.scope s.sorts choice_env x op st.placed f bd;
        fits = fits;
      }

  pub sides-found :
      (P : List PlainGoal → Type 0) → AreFit p j.scope (item (choose x y z) more) →
      Comes (at_cases s x y z (remaining j more)) P → SidesFound P
  sides-found P f h =
      let r = remaining j more in
      let row = λ (op : Op). comp_row choice_env op x in
      let parted : PlainState → PlainState → Attempt (List PlainGoal) = λ t u.
      goes t (record r { items = append_items y more }) >>= λ left.
      goes u (record r { items = append_items z more }) >>= λ right. unit (left ++ right) in
      let other : PlainState → Attempt (List PlainGoal) = λ t.
      row_by choice_env (opposite x.op) x >>= λ o. with_row s o >>= parted t in
      let a = after-row choice_env x.op x (λ q. with_row s q >>= other) P h in
      let b = after-with-row s (row x.op) other P a.1 in
      let t = row_added s (row x.op) in
      let d = after-row choice_env (opposite x.op) x (λ o. with_row s o >>= parted t) P b in
      let goals = (after-with-row s (row (opposite x.op)) (parted t) P d.1).1 in
      let sides = fits-sides p j.scope (choose x y z) more f in
      let behind = fits-more p j.scope (choose x y z) more f in
      let Fits = ItemFits p j.scope in
      let bd = comp-bound choice_env x a.0 in
      let l = value_by_sort x.sort v (term_in choice_env x.left) in
      let g = value_by_sort x.sort v (term_in choice_env x.right) in
      elim (relates-or x.op l g) [
        | inl m ↦ record {
          side = true;
          told =
              side-told true f.0 bd m
              (fits-append p j.scope y more (all-first Fits (all_items y) (all_items z) sides)
              behind);
          goes = goals;
        }
        | inr m ↦ record {
          side = false;
          told =
              side-told false f.0 bd m
              (fits-append p j.scope z more (all-second Fits (all_items y) (all_items z) sides)
              behind);
          goes = goals;
        }
      ]

-- the side that the values choose is taken, by the trees of its goals
pub choose-taken :
    (p : Checked) (ks : List ℕ) (T : Table) (next : ℤ) (lim : Holding) (j : Job) (v : Valuation)
    (s : PlainState) (c : Stock) (st : TakeStart p.program ks T next lim j v s c) (size : ℕ) →
    TookLaw p ks size → (x : Comp) (y z more : Items) → j.items ≡ item (choose x y z) more →
    (trees : PlainTrees) → trees_size trees ≤ size →
    Comes (at_cases s x y z (remaining j more)) (Children p.N trees) →
    Took p ks T next j v s c (suc size)
choose-taken p ks T next lim j v s c st size law x y z more is trees small h =
    let ready = st.ready in
    let backed = st.backed in
    let env = env_at s j.env in
    let f = sides-found p.program ks T j v s c ready backed x y z more is (Children p.N trees)
    (subst (AreFit p.program j.scope) is st.fits) h in
    let kids = trees-apart p.N trees
    (goals_of (row_added s (comp_row env x.op x)) (tasks_of (with_items j (append_items y more))))
    (goals_of (row_added s (comp_row env (opposite x.op) x))
    (tasks_of (with_items j (append_items z more)))) f.goes in
    let n = kids.sizes in
    by f.side f.told kids.before kids.behind (omega (arith, n, small)) (omega (arith, n, small))
    kids.of_first kids.of_second
  where
    by :
        (b : Bool) →
        SideTold p.program ks T j v s c st.ready st.backed x y z more is b →
        (first second : PlainTrees) → trees_size first ≤ size → trees_size second ≤ size →
        Open p.N first (row_added s (comp_row (env_at s j.env) x.op x))
        (tasks_of (with_items j (append_items y more))) →
        Open p.N second (row_added s (comp_row (env_at s j.env) (opposite x.op) x))
        (tasks_of (with_items j (append_items z more))) → Took p ks T next j v s c (suc size)
    by true t first second l r m n =
        took-turned p ks T next lim j v s c st size law first l
        (side-turned p.program ks T j v s c st.ready st.backed x y z more is (Children p.N first)
        true t m)
    by false t first second l r m n =
        took-turned p ks T next lim j v s c st size law second r
        (side-turned p.program ks T j v s c st.ready st.backed x y z more is (Children p.N second)
        false t n)
