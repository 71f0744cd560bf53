-- While regions are open a statement acts on one cell: rows come, the cell gets another content or
-- goes, and a local gets another value.
use Rattle.cap_account_states.proofs.Environments.{all-vars}
use Rattle.std.proofs.Common.{◌≡◌, ℕ, ◌≤◌, ℤ, pos, ◌<ℤ◌, List, [], ◌∷◌, Some, None, arith, ap, ◌∙◌}
use Rattle.std.specs.Prelude.{slice_get, remove}
use Rattle.std.specs.List.{AllByRecursion}
use Rattle.cap_lin.specs.Linear.{Linear}
use Rattle.cap_lin.specs.Values.{Valuation, value}
use Rattle.cap_lin.specs.Solves.{Holds}
use Rattle.cap_lin.specs.declared.row.Row.{Row}
use Rattle.cap_lin.specs.declared.row.Sort.{Sort}
use Rattle.cap_lin.specs.declared.row.Sort.TheVariants.{Int}
use Rattle.cap_prog.specs.Program.{Block, PlainFunction, PlainProgram}
use Rattle.cap_goal_spec.specs.States.{PlainState, Home}
use Rattle.cap_rules.specs.Making.{in_store, with_local}
use Rattle.cap_rules.specs.Closing.{with_content}
use Rattle.cap_machine.specs.Machine.{Frame, with_rest, with_value}
use Rattle.cap_machine_accounts.specs.Assertions.{NameValue}
use Rattle.cap_account_resources.proofs.Lists.{all-set, all-at, all-remove}
use Rattle.cap_account_resources.specs.Parts.{one_cell, Table}
use Rattle.cap_account_resources.proofs.Stocks.{Stock}
use Rattle.cap_account_resources.proofs.Tables.{FitsRoom}
use Rattle.cap_account_states.proofs.Terms.{Over, RowOver, vars-more, over-over}
use Rattle.cap_account_states.proofs.Attempts.{row_added}
use Rattle.cap_account_states.proofs.Meets.{Usable, CellOver, Meets, meets-row}
use Rattle.cap_account_states.proofs.Backed.{Backed}
use Rattle.cap_account_assertions.proofs.TakeCells.{need-apart}
use Rattle.cap_account_steps.proofs.Stores.{Store, here, get-over}
use Rattle.cap_account_steps.proofs.Cells.{Cell, need-one, need-set, store-local}
use Rattle.cap_account_steps.proofs.Worlds.{Earlier, IfAny, Closing, recelled}

-- ---- a state alone

-- a term of the statement is over what the store is over
pub here-free :
    (ks : List ℕ) (s : PlainState) (t : Linear) →
    AllByRecursion (Over (Usable ks s.sorts Int)) s.store → Over (Usable ks s.sorts Int) (here s t)
here-free ks s t over =
    let R = Usable ks s.sorts Int in
    over-over R (λ x. Unit {0}) (in_store s) t (λ x u. get-over R s.store x over) (all-vars t.parts)

pub meets-local :
    (ks : List ℕ) (v : Valuation) (s : PlainState) (y : ℕ) (t : Linear) → Meets ks v s →
    Over (Usable ks s.sorts Int) t → Meets ks v (with_local s y t)
meets-local ks v s y t m o =
    let P = Over (Usable [] s.sorts Int) in
    let free = vars-more (Usable ks s.sorts Int) (Usable [] s.sorts Int) (λ x u. (u.0, tt)) t.parts
    o in
    record {
      sorted = m.sorted;
      rows = m.rows;
      rows_over = m.rows_over;
      cells_over = m.cells_over;
      positive = m.positive;
      store_over = all-set P s.store y t m.store_over free;
    }

pub meets-content :
    (ks : List ℕ) (v : Valuation) (s : PlainState) (j : ℕ) (c : Cell) (u : Linear) → Meets ks v s →
    slice_get s.cells j ≡ Some c → Over (Usable ks s.sorts Int) u →
    Meets ks v (with_content s j c u)
meets-content ks v s j c u m is o =
    let R = CellOver (Usable ks s.sorts) in
    let Positive = λ (d : Cell). pos 0 <ℤ value v.whole d.0 in
    let old = all-at R s.cells j c m.cells_over is in
    let up = all-at Positive s.cells j c m.positive is in
    record {
      sorted = m.sorted;
      rows = m.rows;
      rows_over = m.rows_over;
      cells_over = all-set R s.cells j (c.0, u) m.cells_over (old.0, o);
      positive = all-set Positive s.cells j (c.0, u) m.positive up;
      store_over = m.store_over;
    }

pub meets-gone :
    (ks : List ℕ) (v : Valuation) (s : PlainState) (j : ℕ) → Meets ks v s →
    Meets ks v (record s { cells = remove s.cells j })
meets-gone ks v s j m = record {
  sorted = m.sorted;
  rows = m.rows;
  rows_over = m.rows_over;
  cells_over = all-remove (CellOver (Usable ks s.sorts)) s.cells j m.cells_over;
  positive = all-remove (λ (d : Cell). pos 0 <ℤ value v.whole d.0) s.cells j m.positive;
  store_over = m.store_over;
}

-- ---- and of a frame, while regions are open

-- its store is in the state, over what isn't kept free
pub record Ready (p : PlainProgram) (V W : Table) (part : Stock) (ks : List ℕ) (v : Valuation)
    (s : PlainState) (held : Stock) (h : Home) (fn : PlainFunction) (fixed : List NameValue)
    (f : Frame) : Type 0 where
  pub closing : Closing p V W part ks v s held
  pub over : AllByRecursion (Over (Usable ks s.sorts Int)) s.store
  pub store : Store v s h fn fixed f

module _ (p : PlainProgram) (V W : Table) (part : Stock) (ks : List ℕ) (v : Valuation)
    (s : PlainState) (held : Stock) where
  -- other rows, cells and store, and other cells that are held
  closing-changed :
      (rs : List Row) (cs : List Cell) (us : List Linear) (q : Stock) →
      Closing p V W part ks v s held →
      Meets ks v (record s { rows = rs; cells = cs; store = us }) →
      Backed p v (record s { rows = rs; cells = cs; store = us }) q → FitsRoom p W q →
      Closing p V W part ks v (record s { rows = rs; cells = cs; store = us }) q
  closing-changed rs cs us q c m backed room = record {
    grounded = record {
      meets = m;
      pieces_over = c.grounded.pieces_over;
      pieces_fit = c.grounded.pieces_fit;
    };
    facts = record {
      holds = c.facts.holds;
      over = c.facts.over;
      loose = c.facts.loose;
      differ = c.facts.differ;
    };
    old = c.old;
    opened = c.opened;
    differ = c.differ;
    backed = backed;
    room = room;
    earlier = as-before s.opened c.earlier;
  }
    where
      as-before :
          {A : Type 0} (xs : List A) → IfAny xs (Earlier p ks v s part) →
          IfAny xs (Earlier p ks v (record s { rows = rs; cells = cs; store = us }) part)
      as-before [] e = tt
      as-before (x ∷ xs) e = record { over = e.over; fit = e.fit; covered = e.covered }

  module _ (h : Home) (fn : PlainFunction) (fixed : List NameValue) (f : Frame)
      (k : Ready p V W part ks v s held h fn fixed f) where
    abbrev R : Sort → ℕ → Type 0
    R = Usable ks s.sorts

    abbrev m : Meets ks v s
    m = k.closing.grounded.meets

    abbrev b : Backed p v s held
    b = k.closing.backed

    pub ready-row :
        (r : Row) → Holds v r → RowOver (Usable ks s.sorts) r →
        Ready p V W part ks v (row_added s r) held h fn fixed f
    ready-row r holds over =
        let t = row_added s r in
        record {
          closing = closing-changed t.rows s.cells s.store held k.closing
              (meets-row ks v s r m holds over)
              (record { cells = b.cells; guards = b.guards }) k.closing.room;
          over = k.over;
          store = record {
            home = k.store.home;
            store = k.store.store;
            fixed_are = k.store.fixed_are;
            fixed_known = k.store.fixed_known;
          };
        }

    pub ready-local :
        (y : ℕ) (t : Linear) (z : ℤ) (rest : Block) → Over (Usable ks s.sorts Int) t →
        value v.whole t ≡ z →
        Ready p V W part ks v (with_local s y t) held h fn fixed (with_value (with_rest f rest) y z)
    ready-local y t z rest over e =
        let u = with_local s y t in
        record {
          closing = closing-changed s.rows s.cells u.store held k.closing
              (meets-local ks v s y t m over) (record { cells = b.cells; guards = b.guards })
              k.closing.room;
          over = all-set (Over (R Int)) s.store y t k.over over;
          store = store-local v s h fn fixed f y t z rest e k.store;
        }

    module _ (j : ℕ) (c : Cell) (is : slice_get s.cells j ≡ Some c) (a : ℤ)
        (at : value v.whole c.0 ≡ a) where
      abbrev z : ℤ
      z = value v.whole c.1

      at-address : (x y : ℤ) → one_cell (value v.whole c.0) z x y ≡ one_cell a z x y
      at-address x y = ap (λ n. one_cell n z x y) at

      -- the cell is held
      pub holds-cell : (x y : ℤ) → one_cell a (value v.whole c.1) x y ≤ held.cells x y
      holds-cell x y =
          let one = need-one v s.cells j c x y is in
          let e = at-address x y in
          let le = b.cells x y in
          omega (arith, one, e, le)

      -- it stays as it is
      pub ready-same :
          Ready p V W part ks v s (recelled held a (value v.whole c.1) (Some (value v.whole c.1))) h
          fn fixed f
      ready-same = record {
        closing = closing-changed s.rows s.cells s.store (recelled held a z (Some z)) k.closing m
            (record {
              cells = λ x y.
                  let one = holds-cell x y in
                  let le = b.cells x y in
                  omega (arith, one, le);
              guards = b.guards;
            })
            k.closing.room;
        over = k.over;
        store = k.store;
      }

      -- it has another content
      pub ready-content :
          (u : Linear) (w : ℤ) → Over (Usable ks s.sorts Int) u → value v.whole u ≡ w →
          Ready p V W part ks v (with_content s j c u)
          (recelled held a (value v.whole c.1) (Some w)) h fn fixed f
      ready-content u w over e =
          let t = with_content s j c u in
          record {
            closing = closing-changed s.rows t.cells s.store (recelled held a z (Some w)) k.closing
                (meets-content ks v s j c u m is over)
                (record {
                  cells = λ x y.
                      let set = need-set v s.cells j c (c.0, u) x y is in
                      let one = need-one v s.cells j c x y is in
                      let here = at-address x y in
                      let there = ap (λ n. one_cell n (value v.whole u) x y) at
                      ∙ ap (λ n. one_cell a n x y) e in
                      let le = b.cells x y in
                      omega (arith, set, one, here, there, le);
                  guards = b.guards;
                })
                k.closing.room;
            over = k.over;
            store = record {
              home = k.store.home;
              store = k.store.store;
              fixed_are = k.store.fixed_are;
              fixed_known = k.store.fixed_known;
            };
          }

      -- it goes
      pub ready-gone :
          Ready p V W part ks v (record s { cells = remove s.cells j })
          (recelled held a (value v.whole c.1) None) h fn fixed f
      ready-gone =
          let t = record s { cells = remove s.cells j } in
          record {
            closing = closing-changed s.rows t.cells s.store (recelled held a z None) k.closing
                (meets-gone ks v s j m)
                (record {
                  cells = λ x y.
                      let apart = need-apart v s.cells j c is x y in
                      let here = at-address x y in
                      let le = b.cells x y in
                      omega (arith, apart, here, le);
                  guards = b.guards;
                })
                k.closing.room;
            over = k.over;
            store = record {
              home = k.store.home;
              store = k.store.store;
              fixed_are = k.store.fixed_are;
              fixed_known = k.store.fixed_known;
            };
          }
