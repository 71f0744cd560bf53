-- A cell is taken: the rule `cell`.
use Rattle.std.proofs.Common.{◌≡◌, ℕ, zero, suc, ◌+◌, ◌-◌, ℤ, pos, ◌<ℤ◌, List, [], ◌∷◌, arith, refl, sym, ap, ◌∙◌, subst, Some}
use Rattle.std.specs.Prelude.{slice_get, remove}
use Rattle.cap_lin.specs.Linear.{Linear}
use Rattle.cap_lin.specs.Rows.{row_of}
use Rattle.cap_lin.specs.Values.{Valuation, value}
use Rattle.cap_lin.specs.declared.row.Sort.TheVariants.{Int}
use Rattle.cap_lin.specs.declared.row.Op.TheVariants.{Eq as Equal}
use Rattle.cap_lin.proofs.Rows.{row_of-means}
use Rattle.cap_syntax.specs.declared.place.Place.{Place}
use Rattle.cap_prog.specs.declared.assertion.Slot.{Slot}
use Rattle.cap_prog.specs.Program.{cell, Items, PlainProgram}
use Rattle.cap_prog.specs.Scopes.{Scope, TermFits, SlotFits}
use Rattle.cap_goal_spec.specs.States.{PlainEnv, PlainState, PlainGoal}
use Rattle.cap_goal_spec.specs.Environments.{term_in}
use Rattle.cap_rules.specs.Attempts.{Attempt, ◌>>=◌}
use Rattle.cap_rules.specs.Making.{determined, prove_equal, match_slot, env_at, with_env_at}
use Rattle.cap_rules.specs.Rules.{goes, at_cell}
use Rattle.cap_account_states.proofs.Alike.{usable-alike, Alike, alike-same}
use Rattle.cap_account_resources.specs.Parts.{one_cell, Table}
use Rattle.cap_account_resources.proofs.Lists.{some-same, none-some, all-at, all-remove}
use Rattle.cap_account_resources.proofs.Marks.{free}
use Rattle.cap_account_resources.proofs.Covering.{join_marks, free-right}
use Rattle.cap_account_resources.proofs.Stocks.{Stock, cell_stock, both, Inside, inside-by, inside-same}
use Rattle.cap_account_states.specs.Nodes.{Comes}
use Rattle.cap_account_states.proofs.Terms.{row-over}
use Rattle.cap_account_states.proofs.Attempts.{comes-bind, after-found, after-proved, after-determined}
use Rattle.cap_account_states.proofs.Brought.{brought-none}
use Rattle.cap_account_states.proofs.Meets.{Usable, CellOver, need, Old, proved-holds}
use Rattle.cap_account_states.proofs.Naming.{Means, term-over, term-number, bound-of}
use Rattle.cap_account_states.proofs.Matching.{Matching, matching}
use Rattle.cap_account_states.proofs.Backed.{Backed}
use Rattle.cap_account_assertions.proofs.Laws.{StateAt}
use Rattle.cap_account_assertions.proofs.Follows.{means-before}
use Rattle.cap_account_assertions.proofs.TakeSteps.{Job, remaining, Head}
use Rattle.cap_account_assertions.proofs.TakeHeads.{same-parts, means-bound, head-kept, head-bound, ItemTaken}

-- cells are one of them and the others
pub need-apart :
    (v : Valuation) (cs : List (Linear × Linear)) (i : ℕ) (d : Linear × Linear) →
    slice_get cs i ≡ Some d → (a z : ℤ) →
    need v cs a z ≡ need v (remove cs i) a z + one_cell (value v.whole d.0) (value v.whole d.1) a z
need-apart v [] i d e a z = absurd (none-some e)
need-apart v (x ∷ cs) zero d e a z =
    let same = ap (λ y. one_cell (value v.whole y.0) (value v.whole y.1) a z) (some-same x d e) in
    omega (arith, same)
need-apart v (x ∷ cs) (suc i) d e a z =
    let rest = need-apart v cs i d e a z in omega (arith, rest)

-- what rule `cell` comes to: a cell at the address, whose content meets the slot
pub record CellFound (ks : List ℕ) (sc : Scope) (v : Valuation) (s : PlainState) (e i : ℕ)
    (x : Linear) (y : Slot) (P : PlainEnv → Type 0) : Type 0 where
  pub cell_there : Linear × Linear
  pub is_cell : slice_get s.cells i ≡ Some cell_there
  pub over : CellOver (Usable ks s.sorts) cell_there
  pub at_address :
      (w : Valuation) → Alike (Old s) v w → (a : Valuation) → Means sc w (env_at s e) a →
      value a.whole x ≡ value v.whole cell_there.0
  pub content : Matching ks sc s.sorts v (env_at s e) y cell_there.1 P

-- the state without the cell
abbrev pub without_cell : PlainState → ℕ → PlainState
without_cell s i = record s { cells = remove s.cells i }

module _ (p : PlainProgram) (ks : List ℕ) (T : Table) (j : Job) (v : Valuation) (s : PlainState)
    (c : Stock) (st : StateAt p ks T j.scope j.env v s) (backed : Backed p v s c)
    (P : List PlainGoal → Type 0) where
  abbrev cell_of : Linear × Linear → Stock
  cell_of d = cell_stock (value v.whole d.0) (value v.whole d.1)

  -- what is held without it
  abbrev others_than : Linear × Linear → Stock
  others_than d =
      record { cells = λ a z. c.cells a z - (cell_of d).cells a z; guards = c.guards }

  abbrev head-cell :
      (i : ℕ) (d : Linear × Linear) → slice_get s.cells i ≡ Some d → Head p ks T j v s c []
  head-cell i d e =
      let me = st.grounded.meets in
      head-kept p ks T j v s c st v (without_cell s i) (others_than d) (cell_of d)
      (same-parts s s.rows (remove s.cells i) s.guards) refl
      (alike-same (Old s) v) (brought-none s (without_cell s i) v refl) (record {
        meets = record {
          sorted = me.sorted;
          rows = me.rows;
          rows_over = me.rows_over;
          cells_over = all-remove (CellOver (Usable ks s.sorts)) s.cells i me.cells_over;
          positive = all-remove (λ d. pos 0 <ℤ value v.whole d.0) s.cells i me.positive;
          store_over = me.store_over;
        };
        pieces_over = st.grounded.pieces_over;
        pieces_fit = st.grounded.pieces_fit;
      }) (record {
        cells = λ a z.
            let n = need-apart v s.cells i d e a z in
            let m = backed.cells a z in omega (arith, n, m);
        guards = backed.guards;
      })
      (inside-by p (both p (others_than d) (cell_of d)) c
      (λ a z.
      let n = need-apart v s.cells i d e a z in
      let m = backed.cells a z in omega (arith, n, m))
      (λ n. (
        Some free,
        free-right p (join_marks p (c.guards n) (Some free)) ∙ free-right p (c.guards n),
      )))

  -- the environment in which the content is met
  abbrev pub AfterCell : ℕ → Items → PlainEnv → Type 0
  AfterCell i more later =
      Comes (goes (with_env_at (without_cell s i) j.env later) (remaining j more)) P

  pub cell-found :
      (i : ℕ) (x : Linear) (y : Slot) (more : Items) → TermFits j.scope Int x →
      SlotFits j.scope Int y → Comes (at_cell s i x y (remaining j more)) P →
      CellFound ks j.scope v s j.env i x y (AfterCell i more)
  cell-found i x y more fx fy h =
      let env = env_at s j.env in
      let end : PlainEnv → Attempt (List PlainGoal) = λ later.
      goes (with_env_at (without_cell s i) j.env later) (remaining j more) in
      let content : Linear × Linear → Attempt (List PlainGoal) = λ d.
      match_slot s.rows env y d.1 >>= end in
      let address : Linear × Linear → Linear → Attempt (List PlainGoal) = λ d t.
      prove_equal s t d.0 >>= λ u. content d in
      let a = after-found (slice_get s.cells i) (λ d. determined env x >>= address d) P h in
      let d = a.0 in
      let b = after-determined env x (address d) P a.2 in
      let e = after-proved s.rows (term_in env x) Equal d.0 Int (λ u. content d) P b.1 in
      let bd = bound-of env x.parts b.0 in
      let me = st.grounded.meets in
      let od = all-at (CellOver (Usable ks s.sorts)) s.cells i d me.cells_over a.1 in
      let ox = term-over ks j.scope s.sorts env Int x st.placed fx bd in
      let same : value v.whole (term_in env x) ≡ value v.whole d.0 =
      (row_of-means v (term_in env x) Equal d.0 Int).0
      (proved-holds ks ks v s (row_of (term_in env x) Equal d.0 Int) me e.0
      (row-over (Usable ks s.sorts) (term_in env x) Equal d.0 Int ox od.0)) in
      record {
        cell_there = d;
        is_cell = a.1;
        over = od;
        at_address = λ w l b before.
            sym (term-number j.scope w env b Int x before fx bd)
            ∙ usable-alike ks s v w l (term_in env x) ox
            ∙ same;
        content =
            matching ks j.scope v s env y d.1 (λ later. Comes (end later) P) me st.placed fy od.1
            (comes-bind (match_slot s.rows env y d.1) end P e.1);
      }

  abbrev pub cell-goes :
      (i : ℕ) (place : Place) (x : Linear) (y : Slot) (more : Items) →
      CellFound ks j.scope v s j.env i x y (AfterCell i more) →
      ItemTaken p ks T j v s c P [] (cell place x y) more
  cell-goes i place x y more f =
      let d = f.cell_there in
      let g = f.content in
      let head = head-bound p ks T j v s c st (head-cell i d f.is_cell) g.later g.placed g.stays
      g.outside g.size in
      record {
        head = head;
        claim = λ w l b m r.
            let before = means-before ks j.scope j.env v v s head.after head.follows st.placed w b
            m in
            let here = f.at_address w l b before in (
              value v.whole d.1,
              subst (λ z. pos 0 <ℤ z) (sym here)
                  (all-at (λ d. pos 0 <ℤ value v.whole d.0) s.cells i d st.grounded.meets.positive
                  f.is_cell),
              g.means w l b
                  (means-bound j.scope j.env (without_cell s i) g.later st.there w b m),
              subst (λ z. Inside p (both p (cell_stock z (value v.whole d.1)) r)
                  (both p (cell_of d) r)) (sym here) (inside-same p (both p (cell_of d) r)),
            );
        goes = g.comes.1;
      }

  pub cell-taken :
      (i : ℕ) (place : Place) (x : Linear) (y : Slot) (more : Items) → TermFits j.scope Int x →
      SlotFits j.scope Int y → Comes (at_cell s i x y (remaining j more)) P →
      ItemTaken p ks T j v s c P [] (cell place x y) more
  cell-taken i place x y more fx fy h =
      cell-goes i place x y more (cell-found i x y more fx fy h)
