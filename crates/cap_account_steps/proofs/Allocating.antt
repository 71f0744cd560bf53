-- Allocation: the state has new cells behind a fresh variable.
use Rattle.cap_account_states.proofs.Terms.{value-number, Over, over-plus, row-over, Agree}
use Rattle.std.proofs.Common.{◌≡◌, ℕ, ◌+◌, ◌≤◌, ℤ, pos, ◌*ℤ◌, ◌<ℤ◌, ◌≤ℤ◌, List, [], ◌++◌, length, arith, refl, sym, ap, ◌∙◌, subst}
use Rattle.std.proofs.lemmas.Int.{ints}
use Rattle.cap_lin.specs.Linear.{Linear, number}
use Rattle.cap_lin.specs.Rows.{row_of}
use Rattle.cap_lin.specs.Values.{Valuation, denominator, value}
use Rattle.cap_lin.specs.Solves.{IsWholeAt}
use Rattle.cap_lin.specs.declared.row.Sort.TheVariants.{Int}
use Rattle.cap_lin.specs.declared.row.Op.TheVariants.{Ge as AtLeast}
use Rattle.cap_lin.proofs.Rows.{row_of-means}
use Rattle.cap_prog.specs.Program.{Label, alloc, Block, first, PlainFunction}
use Rattle.cap_goal_spec.specs.States.{PlainState, PlainTask, to_run, PlainGoal, goals_of}
use Rattle.cap_goal_spec.specs.Environments.{one_value}
use Rattle.cap_goal_spec.specs.Choices.{node, by_absurd, by_alloc, PlainTree}
use Rattle.cap_rules.specs.Attempts.{◌>>=◌}
use Rattle.cap_rules.specs.Making.{fresh, with_comparison, with_local}
use Rattle.cap_rules.specs.Rules.{leaves, with_new_cells, at_alloc}
use Rattle.cap_machine.specs.Machine.{Frame, with_rest, with_value}
use Rattle.cap_machine_accounts.specs.Assertions.{NameValue}
use Rattle.cap_account_resources.proofs.Lists.{all-set, get-last, all-both}
use Rattle.cap_account_resources.specs.Parts.{Table}
use Rattle.cap_account_resources.proofs.Heaps.{fresh_cells}
use Rattle.cap_account_resources.proofs.Covering.{Covered, free-right}
use Rattle.cap_account_resources.proofs.Stocks.{Stock, no_guards, both}
use Rattle.cap_account_states.specs.Nodes.{Comes, Children}
use Rattle.cap_account_states.proofs.Alike.{agree-alike, meets-fresh, need-alike}
use Rattle.cap_account_states.proofs.Attempts.{sort_added, row_added, after-sort, after-comparison, comes-bind}
use Rattle.cap_account_states.proofs.Meets as meets
use Rattle.cap_account_states.proofs.Meets.{Usable, usable-old, usable-on, CellOver, Meets, need, Old, new-whole, new-share, with-agrees, meets-row, same-fresh, variable-value}
use Rattle.cap_account_states.proofs.Compatible.{pieces-more, covered-alike}
use Rattle.cap_account_states.proofs.Facts.{Facts, facts-on}
use Rattle.cap_account_states.proofs.Checked.{Checked, one-child}
use Rattle.cap_account_states.proofs.Roots.{values-length}
use Rattle.cap_account_steps.proofs.Stores.{running, store-alike}
use Rattle.cap_account_steps.proofs.Cells.{new_cells, comes-new-cells, address-is, need-both, new-cells-need, new-cells-all, store-local}
use Rattle.cap_account_steps.proofs.Frames.{Node, SitsAt}
use Rattle.cap_account_steps.proofs.Statements.{AllocLaw, Before}
use Rattle.cap_account_assertions.proofs.Named.{set_to}
use Rattle.cap_account_steps.proofs.Local.{given-up}

-- ---- the states on the way

-- a fresh variable, a row that it is above 0, cells from it on, and it is in the store
abbrev pub above_one : PlainState → PlainState
above_one s = row_added (sort_added s Int) (row_of (fresh s) AtLeast one_value Int)

abbrev pub with_cells : ℕ → PlainState → PlainState
with_cells n s = record (above_one s) { cells = s.cells ++ new_cells (fresh s) 0 n }

abbrev pub allocated : ℕ → ℕ → PlainState → PlainState
allocated x n s = with_local (with_cells n s) x (fresh s)

pub comes-allocated :
    (x n : ℕ) (s : PlainState) (ts : List PlainTask) (P : List PlainGoal → Type 0) →
    Comes (at_alloc s x n ts) P → P (goals_of (allocated x n s) ts)
comes-allocated x n s ts P h =
    let u = fresh s in
    let last = λ (s' : PlainState). leaves (with_local s' x u) ts in
    let adds = λ (s' : PlainState). with_new_cells s' u 0 n >>= last in
    let compares = λ (s' : PlainState). with_comparison s' u AtLeast one_value Int >>= adds in
    let h1 = after-sort s Int compares P h in
    let h2 = after-comparison (sort_added s Int) u AtLeast one_value Int adds P h1 in
    (comes-new-cells (above_one s) u 0 n (λ s'. Comes (last s') P)
    (comes-bind (with_new_cells (above_one s) u 0 n) last P h2)).1

-- ---- a frame that allocates

module _ (p : Checked) (part : Stock) (T : Table) (fn : PlainFunction) (fixed : List NameValue)
    (size : length fixed ≡ length fn.fixed) (x n : ℕ) (base : ℤ) (up : pos 1 ≤ℤ base) where
  abbrev enlarged : Stock
  enlarged = both p.program part (record { cells = fresh_cells base n; guards = no_guards })

  module _ (f : Frame) (l : Label) (b : Block) (d : PlainTree)
      (k : Node p part T fn fixed (with_rest f (first l (alloc x n) b))
      (running (first l (alloc x n) b)) d) where
    abbrev s : PlainState
    s = k.state

    abbrev v : Valuation
    v = k.v

    abbrev u : Linear
    u = fresh k.state

    -- the fresh variable is the base
    abbrev pub w : Valuation
    w = meets.with_value k.v (length k.state.sorts) base (base *ℤ denominator k.v.fraction)

    pub agrees : Agree (Old s) v w
    agrees =
        with-agrees (Old s) v (length s.sorts) base (base *ℤ denominator v.fraction)
        (λ y l q. omega (arith, l, q))

    pub is-base : value w.whole u ≡ base
    is-base =
        variable-value w (length s.sorts)
        ∙ new-whole v (length s.sorts) base (base *ℤ denominator v.fraction)

    pub is-whole : IsWholeAt w (length s.sorts)
    is-whole =
        new-share v (length s.sorts) base (base *ℤ denominator v.fraction)
        ∙ ap (λ y. y *ℤ denominator v.fraction)
        (sym (new-whole v (length s.sorts) base (base *ℤ denominator v.fraction)))

    pub fresh-over : Over (Usable [] (sort_added s Int).sorts Int) u
    fresh-over = ((get-last s.sorts Int, tt), tt)

    pub meets-above : Meets [] w (above_one s)
    meets-above =
        let one = value-number w.whole (pos 1) in
        let at = is-base in
        meets-row [] w (sort_added s Int) (row_of u AtLeast one_value Int)
        (meets-fresh [] v w s Int agrees is-whole k.grounded.meets)
        ((row_of-means w u AtLeast one_value Int).1 (omega (arith, ints, at, up, one)))
        (row-over (Usable [] (sort_added s Int).sorts) u AtLeast one_value Int fresh-over tt)

    pub meets-allocated : Meets [] w (allocated x n s)
    meets-allocated =
        let m = meets-above in
        let R = CellOver (Usable [] (above_one s).sorts) in
        record {
          sorted = m.sorted;
          rows = m.rows;
          rows_over = m.rows_over;
          cells_over =
              all-both R s.cells (new_cells u 0 n) m.cells_over
              (new-cells-all R u 0 n
              (λ i. (
                over-plus (Usable [] (above_one s).sorts Int) u (number (pos i)) fresh-over tt,
                tt,
              )));
          positive =
              all-both (λ c. pos 0 <ℤ value w.whole c.0) s.cells (new_cells u 0 n) m.positive
              (new-cells-all (λ c. pos 0 <ℤ value w.whole c.0) u 0 n
              (λ i. let e = address-is w u i in let at = is-base in
              omega (arith, ints, e, at, up)));
          store_over = all-set (Over (Usable [] (above_one s).sorts Int)) s.store x u m.store_over
              fresh-over;
        }

    pub facts-allocated : Facts [] w T (allocated x n s)
    facts-allocated =
        let f = facts-on [] v w T s (sort_added s Int) (same-fresh s Int)
        (agree-alike (Old s) v w agrees) k.facts in
        record { holds = f.holds; over = f.over; loose = f.loose; differ = f.differ }

    pub cells-allocated : (a z : ℤ) → need w (allocated x n s).cells a z ≤ enlarged.cells a z
    cells-allocated a z =
        let i = need-both w s.cells (new_cells u 0 n) a z in
        let j = new-cells-need w u 0 n a z in
        let e = ap (λ y. fresh_cells y n a z) is-base in
        let i0 : 0 + n ≡ n = omega arith in
        let e0 = ap (λ y. fresh_cells (value w.whole u) y a z) i0 in
        let c = need-alike (Usable [] s.sorts) (Old s) v w
        (λ y l. usable-old [] s.sorts Int y l) (agree-alike (Old s) v w agrees) s.cells
        k.grounded.meets.cells_over a z in
        let g = k.backed.cells a z in
        omega (arith, i, j, e, e0, c, g)

    pub guards-allocated : (m : ℤ) → Covered p.program w s.guards m (enlarged.guards m)
    guards-allocated m =
        subst (Covered p.program w s.guards m) (sym (free-right p.program (part.guards m)))
        (covered-alike p.program (Old s) v w (agree-alike (Old s) v w agrees) s.guards m
        (part.guards m)
        (pieces-more (Usable [] s.sorts) (λ o. Old s) (usable-old [] s.sorts) s.guards
        k.grounded.pieces_over)
        (k.backed.guards m))

    abbrev pub sits-allocated :
        (e : PlainTree) → p.N e (allocated x n s) (running b k.home) →
        SitsAt p enlarged T fn fixed (with_value (with_rest f b) x base)
        (set_to k.v (length k.state.sorts) base)
    sits-allocated e valid = record {
      sits = record {
        tree = e;
        at_node = record {
          state = allocated x n s;
          v = w;
          home = k.home;
          valid = valid;
          none_open = k.none_open;
          grounded = record {
            meets = meets-allocated;
            pieces_over = pieces-more (Usable [] s.sorts) (Usable [] (sort_added s Int).sorts)
                (usable-on [] s.sorts (sort_added s Int).sorts (same-fresh s Int).sorts) s.guards
                k.grounded.pieces_over;
            pieces_fit = k.grounded.pieces_fit;
          };
          facts = facts-allocated;
          firm = k.firm;
          backed = record { cells = cells-allocated; guards = guards-allocated };
          store = store-local w (with_cells n s) k.home fn fixed f x u base b is-base
              (let st = store-alike v w s (sort_added s Int) k.home fn fixed f
              k.grounded.meets.store_over (agree-alike (Old s) v w agrees) (same-fresh s Int).sorts refl
              size (record {
                home = k.store.home;
                store = k.store.store;
                fixed_are = k.store.fixed_are;
                fixed_known = k.store.fixed_known;
              }) in
              record {
                home = st.home;
                store = st.store;
                fixed_are = st.fixed_are;
                fixed_known = st.fixed_known;
              });
        };
      };
      named = refl;
    }

  alloc-at :
      (f : Frame) (l : Label) (b : Block) (d : PlainTree) →
      (k : Node p part T fn fixed (with_rest f (first l (alloc x n) b))
      (running (first l (alloc x n) b)) d) →
      SitsAt p enlarged T fn fixed (with_value (with_rest f b) x base)
      (set_to k.v (length k.state.sorts) base)
  alloc-at f l b (node (by_absurd c) ks) k =
      given-up p part T fn fixed (with_rest f (first l (alloc x n) b))
      (λ h. to_run h (first l (alloc x n) b)) c ks k
  alloc-at f l b (node by_alloc ks) k =
      let q = one-child p.N ks (allocated x n k.state) (running b k.home)
      (comes-allocated x n k.state (running b k.home) (Children p.N ks) (p.step k.valid)) in
      sits-allocated f l b (node by_alloc ks) k q.0 q.1
  alloc-at f l b d k = absurd (p.step k.valid).1

-- the fresh variable is the base
pub alloc-named :
    (p : Checked) (part : Stock) (T : Table) (fn : PlainFunction) (fixed : List NameValue)
    (f : Frame) (l : Label) (b : Block) (x n : ℕ) (base : ℤ) → pos 1 ≤ℤ base →
    (k : Before p part T fn fixed f l (alloc x n) b) →
    SitsAt p (both p.program part (record { cells = fresh_cells base n; guards = no_guards })) T fn
    fixed (with_value (with_rest f b) x base)
    (set_to k.sits.at_node.v (length k.sits.at_node.state.sorts) base)
alloc-named p part T fn fixed f l b x n base up k =
    alloc-at p part T fn fixed (values-length fn.fixed fixed k.ok.values) x n base up f l b
    k.sits.tree k.sits.at_node

pub alloc-law : (p : Checked) → AllocLaw p
alloc-law p part T fn fixed f l b x n base up k =
    (alloc-named p part T fn fixed f l b x n base up k).sits
