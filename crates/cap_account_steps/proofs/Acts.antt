-- A heap statement acts: it reads or writes the cell at its address, swaps its content if that is
-- the expected one, adds to it, or disposes of the cell.
use Rattle.cap_account_states.proofs.Terms.{value-number, Over, row-over, over-plus}
use Rattle.std.proofs.Common.{◌≡◌, ℕ, ℤ, pos, ◌+ℤ◌, List, [], ◌∷◌, ◌++◌, length, refl, sym, ap, ◌∙◌, Option, Some, Bool, true, false}
use Rattle.std.specs.Prelude.{flat_map, remove}
use Rattle.cap_lin.specs.Linear.{Linear, plus, same_number}
use Rattle.cap_lin.specs.Steps.{plus_steps}
use Rattle.cap_lin.specs.Values.{Valuation, value}
use Rattle.cap_lin.specs.Rows.{row_of}
use Rattle.cap_lin.specs.declared.row.Row.{Row}
use Rattle.cap_lin.specs.declared.row.Sort.TheVariants.{Int}
use Rattle.cap_lin.specs.declared.row.Op.TheVariants.{Eq as Equal, Ne as Unequal}
use Rattle.cap_lin.proofs.Rows.{row_of-means}
use Rattle.cap_lin.proofs.Values.{value-plus}
use Rattle.cap_prog.specs.Program.{PlainAct, set, read, write, cas, faa, dispose, alloc, call, fork, branch, loop, check, give_back, Block, PlainFunction}
use Rattle.cap_goal_spec.specs.States.{PlainState, Home, PlainGoal, goals_of}
use Rattle.cap_goal_spec.specs.Environments.{zero_value, one_value}
use Rattle.cap_rules.specs.Attempts.{unit, ◌>>=◌}
use Rattle.cap_rules.specs.Making.{sum, value_here, with_comparison, with_local}
use Rattle.cap_rules.specs.Closing.{address_of, with_content}
use Rattle.cap_machine.specs.Machine.{Frame, value_in, with_rest}
use Rattle.cap_machine_accounts.specs.Assertions.{NameValue}
use Rattle.cap_account_resources.specs.Parts.{Table}
use Rattle.cap_account_resources.proofs.Lists.{none-some, all-at}
use Rattle.cap_account_resources.proofs.Order.{same-int, other-int}
use Rattle.cap_account_resources.proofs.Stocks.{Stock}
use Rattle.cap_account_states.proofs.Attempts.{row_added, after-computed, after-here, after-comparison}
use Rattle.cap_account_states.proofs.Checked.{Checked}
use Rattle.cap_account_states.proofs.Meets.{Usable, CellOver}
use Rattle.cap_account_steps.proofs.Stores.{here, here-value}
use Rattle.cap_account_steps.proofs.Worlds.{opened_table, after_cas, after_act, recelled}
use Rattle.cap_account_steps.proofs.Changing.{Ready, here-free, ready-row, ready-local, ready-same, ready-content, ready-gone}
use Rattle.cap_account_steps.proofs.AtCell.{then_close, AtCell}

-- the number of the state, of those that a statement leaves, that is the frame's: a swap fails in
-- the second
abbrev pub swap_number : Bool → ℕ
swap_number true = 0
swap_number false = 1

abbrev pub act_number : PlainAct → Frame → ℤ → ℕ
act_number (cas y a old new) f z = swap_number (same_number z (value_in f.store old))
act_number a f z = 0

module _ (p : Checked) (G : List PlainGoal → Type 0) (V : Table) (part held : Stock) (ns : List ℤ)
    (fn : PlainFunction) (fixed : List NameValue) (f : Frame) (h : Home) (n : ℕ) (b : Block)
    (x : Linear) (v0 : Valuation) (s0 : PlainState) (ms : List Bool) where
  abbrev Cells : PlainAct → Type 0
  Cells a = AtCell p G V part held ns fn fixed f h n a b (value_in f.store x) v0 s0 ms

  -- one of the states after the statement, that of this number, is that of the frame, with what its
  -- cell is now
  pub record Done (a : PlainAct) (k : Cells a) (r : Option ℤ × Frame) (number : ℕ) : Type 0 where
    pub before : List PlainState
    pub t : PlainState
    pub behind : List PlainState
    pub count : length before ≡ number
    pub opened : t.opened ≡ k.s.opened
    pub sorts : t.sorts ≡ k.s.sorts
    pub facts : t.facts ≡ k.s.facts
    pub goals :
        G (flat_map (λ u. goals_of u (then_close n (length k.s.opened) r.1.rest h))
        (before ++ t ∷ behind))
    pub ready :
        Ready p.program V (opened_table ns V) part k.ks k.v t
        (recelled held (value_in f.store x) (value k.v.whole k.c.1) r.0) h fn fixed r.1

  -- ---- each statement

  module _ (a : PlainAct) (k : Cells a) where
    abbrev ks : List ℕ
    ks = k.ks

    abbrev v : Valuation
    v = k.v

    abbrev s : PlainState
    s = k.s

    abbrev g : Frame
    g = with_rest f b

    abbrev W : Table
    W = opened_table ns V

    abbrev content : ℤ
    content = value k.v.whole k.c.1

    abbrev Goals : List PlainState → Type 0
    Goals states = G (flat_map (λ t. goals_of t (then_close n (length k.s.opened) b h)) states)

    content-over : Over (Usable ks s.sorts Int) k.c.1
    content-over =
        (all-at (CellOver (Usable ks s.sorts)) s.cells k.j k.c
        k.ready.closing.grounded.meets.cells_over k.is).1

    term-over : (t : Linear) → Over (Usable ks s.sorts Int) (here s t)
    term-over t = here-free ks s t k.ready.over

    term-value : (t : Linear) → value v.whole (here s t) ≡ value_in f.store t
    term-value t = here-value v s f.store t k.ready.store.store

    same-cell :
        Ready p.program V W part ks v s
        (recelled held (value_in f.store x) content (Some content)) h fn fixed g
    same-cell =
        ready-same p.program V W part ks v s held h fn fixed g k.ready k.j k.c k.is
        (value_in f.store x) k.address

  read-done :
      (y : ℕ) (u : Linear) (k : Cells (read y u)) →
      Done (read y u) k (after_act (read y u) f b (value k.v.whole k.c.1)) 0
  read-done y u k =
      let a = read y u in
      let t = with_local k.s y k.c.1 in
      record {
        before = [];
        t = t;
        behind = [];
        count = refl;
        opened = refl;
        sorts = refl;
        facts = refl;
        goals = k.goals.1;
        ready = ready-local p.program V (W a k) part k.ks k.v k.s
            (recelled held (value_in f.store x) (content a k) (Some (content a k))) h fn fixed
            (g a k) (same-cell a k) y k.c.1 (content a k) b (content-over a k) refl;
      }

  write-done :
      (u t : Linear) (k : Cells (write u t)) →
      Done (write u t) k (after_act (write u t) f b (value k.v.whole k.c.1)) 0
  write-done u t k =
      let a = write u t in
      let new = here k.s t in
      let after = with_content k.s k.j k.c new in
      let all = after-here k.s t
      (λ w. unit (with_content k.s k.j k.c w ∷ [])) (Goals a k) k.goals
      in
      record {
        before = [];
        t = after;
        behind = [];
        count = refl;
        opened = refl;
        sorts = refl;
        facts = refl;
        goals = all.1;
        ready = ready-content p.program V (W a k) part k.ks k.v k.s held h fn fixed (g a k) k.ready
            k.j k.c k.is (value_in f.store x) k.address new (value_in f.store t) (term-over a k t)
            (term-value a k t);
      }

  add-done :
      (y : ℕ) (u t : Linear) (k : Cells (faa y u t)) →
      Done (faa y u t) k (after_act (faa y u t) f b (value k.v.whole k.c.1)) 0
  add-done y u t k =
      let a = faa y u t in
      let w = here k.s t in
      let sum-of = plus k.c.1 w in
      let z = content a k in
      let added = value_in f.store t in
      let R = Usable k.ks k.s.sorts Int in
      let s1 = with_content k.s k.j k.c sum-of in
      let after = with_local s1 y k.c.1 in
      let last = λ (v : Linear). unit (with_local (with_content k.s k.j k.c v) y k.c.1 ∷ []) in
      let all = after-here k.s t (λ w. sum k.c.1 w >>= last) (Goals a k) k.goals in
      let each = after-computed sum-of (plus_steps k.c.1 w) last (Goals a k) all in
      let r1 = ready-content p.program V (W a k) part k.ks k.v k.s held h fn fixed (g a k) k.ready
      k.j k.c k.is (value_in f.store x) k.address sum-of (z +ℤ added)
      (over-plus R k.c.1 w (content-over a k) (term-over a k t))
      (value-plus k.v.whole k.c.1 w ∙ ap (λ n. z +ℤ n) (term-value a k t)) in
      record {
        before = [];
        t = after;
        behind = [];
        count = refl;
        opened = refl;
        sorts = refl;
        facts = refl;
        goals = each.1;
        ready = ready-local p.program V (W a k) part k.ks k.v s1
            (recelled held (value_in f.store x) z (Some (z +ℤ added))) h fn fixed (g a k) r1 y k.c.1
            z b (content-over a k) refl;
      }

  dispose-done :
      (u : Linear) (k : Cells (dispose u)) →
      Done (dispose u) k (after_act (dispose u) f b (value k.v.whole k.c.1)) 0
  dispose-done u k =
      let a = dispose u in
      let after = record k.s { cells = remove k.s.cells k.j } in
      record {
        before = [];
        t = after;
        behind = [];
        count = refl;
        opened = refl;
        sorts = refl;
        facts = refl;
        goals = k.goals.1;
        ready = ready-gone p.program V (W a k) part k.ks k.v k.s held h fn fixed (g a k) k.ready k.j
            k.c k.is (value_in f.store x) k.address;
      }

  module _ (y : ℕ) (u old new : Linear) (k : Cells (cas y u old new)) where
    abbrev swap : PlainAct
    swap = cas y u old new

    abbrev expected : Linear
    expected = here k.s old

    abbrev met : Row
    met = row_of k.c.1 Equal (here k.s old) Int

    abbrev unmet : Row
    unmet = row_of k.c.1 Unequal (here k.s old) Int

    abbrev succeeded : PlainState
    succeeded =
        with_local (with_content (row_added k.s met) k.j k.c (here k.s new)) y one_value

    abbrev failed : PlainState
    failed = with_local (row_added k.s unmet) y zero_value

    both-states : Goals swap k (succeeded ∷ failed ∷ [])
    both-states =
        let N = Goals swap k in
        let c = k.c.1 in
        let ends = λ (t : PlainState) (w : Linear) (r : PlainState). unit
        (with_local (with_content t k.j k.c w) y one_value ∷ with_local r y zero_value ∷ []) in
        let fails = λ (t : PlainState) (w : Linear).
        with_comparison k.s c Unequal expected Int >>= ends t w in
        let writes = λ (t : PlainState). value_here k.s new >>= fails t in
        let all = after-here k.s old
        (λ e. with_comparison k.s c Equal e Int >>= λ t.
        value_here k.s new >>= λ w. with_comparison k.s c Unequal e Int >>= ends t w) N k.goals in
        (after-comparison k.s c Unequal expected Int (ends (row_added k.s met) (here k.s new)) N
        (after-here k.s new (fails (row_added k.s met)) N
        (after-comparison k.s c Equal expected Int writes N all))).1

    -- by the test of the machine
    swap-done :
        (d : Bool) → same_number (value k.v.whole k.c.1) (value_in f.store old) ≡ d →
        Done swap k
        (after_cas d (with_rest f b) y (value k.v.whole k.c.1) (value_in f.store new))
        (swap_number d)
    swap-done true e =
        let z = content swap k in
        let R = Usable k.ks k.s.sorts in
        let held' = recelled held (value_in f.store x) z (Some (value_in f.store new)) in
        let is = same-int z (value_in f.store old) e ∙ sym (term-value swap k old) in
        let r1 = ready-row p.program V (W swap k) part k.ks k.v k.s held h fn fixed (g swap k)
        k.ready met ((row_of-means k.v k.c.1 Equal expected Int).1 is)
        (row-over R k.c.1 Equal expected Int (content-over swap k) (term-over swap k old)) in
        let s1 = row_added k.s met in
        let r2 = ready-content p.program V (W swap k) part k.ks k.v s1 held h fn fixed (g swap k) r1
        k.j k.c k.is (value_in f.store x) k.address (here k.s new) (value_in f.store new)
        (term-over swap k new) (term-value swap k new) in
        let s2 = with_content s1 k.j k.c (here k.s new) in
        record {
          before = [];
          t = succeeded;
          behind = failed ∷ [];
          count = refl;
          opened = refl;
          sorts = refl;
          facts = refl;
          goals = both-states;
          ready = ready-local p.program V (W swap k) part k.ks k.v s2 held' h fn fixed (g swap k) r2
              y one_value (pos 1) b tt (value-number k.v.whole (pos 1));
        }
    swap-done false e =
        let z = content swap k in
        let R = Usable k.ks k.s.sorts in
        let held' = recelled held (value_in f.store x) z (Some z) in
        let other = other-int z (value_in f.store old) e in
        let r1 = ready-row p.program V (W swap k) part k.ks k.v k.s held' h fn fixed (g swap k)
        (same-cell swap k) unmet
        ((row_of-means k.v k.c.1 Unequal expected Int).1 (λ q. other (q ∙ term-value swap k old)))
        (row-over R k.c.1 Unequal expected Int (content-over swap k) (term-over swap k old)) in
        record {
          before = succeeded ∷ [];
          t = failed;
          behind = [];
          count = refl;
          opened = refl;
          sorts = refl;
          facts = refl;
          goals = both-states;
          ready = ready-local p.program V (W swap k) part k.ks k.v (row_added k.s unmet) held' h fn
              fixed (g swap k) r1 y zero_value (pos 0) b tt (value-number k.v.whole (pos 0));
        }

  pub statement-done :
      (a : PlainAct) → address_of a ≡ Some x → (k : Cells a) →
      Done a k (after_act a f b (value k.v.whole k.c.1)) (act_number a f (value k.v.whole k.c.1))
  statement-done (read y u) e k = read-done y u k
  statement-done (write u t) e k = write-done u t k
  statement-done (cas y u old new) e k = swap-done y u old new k _ refl
  statement-done (faa y u t) e k = add-done y u t k
  statement-done (dispose u) e k = dispose-done u k
  statement-done (set y t) e k = absurd (none-some e)
  statement-done (alloc y m) e k = absurd (none-some e)
  statement-done (call y m us) e k = absurd (none-some e)
  statement-done (fork m us) e k = absurd (none-some e)
  statement-done (branch c y z) e k = absurd (none-some e)
  statement-done (loop c i y) e k = absurd (none-some e)
  statement-done (check c) e k = absurd (none-some e)
  statement-done (give_back t) e k = absurd (none-some e)
