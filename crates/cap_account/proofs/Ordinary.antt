-- Statements that touch no region: a local is set, a branch is taken, a check holds, and cells are
-- allocated.
use Rattle.std.proofs.Common.{◌≡◌, ◌⊎◌, inl, inr, ℕ, zero, suc, ◌+◌, ◌≤◌, ℤ, pos, ◌≤ℤ◌, Bool, true, false, ◌∷◌, Option, Some, None, refl, sym, ap, ◌∙◌, subst, arith}
use Rattle.std.specs.Prelude.{int_le, if◌then◌else◌}
use Rattle.std.specs.FinMap.{get}
use Rattle.std.proofs.lemmas.Int.{ints}
use Rattle.cap_lin.specs.Linear.{Linear}
use Rattle.cap_prog.specs.declared.assertion.Comp.{Comp}
use Rattle.cap_prog.specs.Program.{PlainProgram, Label, PlainAct, set, alloc, branch, check, Block, first, append}
use Rattle.cap_machine.specs.Machine.{Heap, Frame, fault, disabled, value_in, holds, with_rest, with_value, passes, sets, with_cells, are_free, may_be_at, does}
use Rattle.cap_machine.specs.declared.event.Event.TheVariants.{Set, Alloc, Branch, Assert, Failed}
use Rattle.cap_machine_accounts.specs.Following.{accesses, SomeHasCell}
use Rattle.cap_account_resources.specs.Parts.{Table, cells_of}
use Rattle.cap_account_resources.proofs.Lists.{some-same}
use Rattle.cap_account_resources.proofs.Heaps.{counted-is, count-one, count-at-most, fresh_cells, allocated, both-true}
use Rattle.cap_account_resources.proofs.Covering.{free-right}
use Rattle.cap_account_resources.proofs.Interference.{Relies, relies-less, relies-same}
use Rattle.cap_account_resources.proofs.Stocks.{Stock, no_guards, both, inside-first, inside-guards}
use Rattle.cap_account_states.proofs.Checked.{Checked}
use Rattle.cap_account_steps.proofs.Regained.{Stable}
use Rattle.cap_account_steps.proofs.Points.{Point, point-act, point-next, point-then, point-else, ok-rest, ok-store}
use Rattle.cap_account_steps.proofs.Frames.{Sits, Stands}
use Rattle.cap_account_steps.proofs.Statements.{Before, Statements}
use Rattle.cap_account.proofs.Stocked.{part_stock, account_table, callee_of, AllWait, Turn, spot_of}
use Rattle.cap_account.proofs.Changes.{Recells}
use Rattle.cap_account.proofs.Following.{before}
use Rattle.cap_account.proofs.Strides.{recelling, still, Goes, no-access, goes-on}

-- the stepping frame stands at these statements
abbrev pub StandsAt : (p : Checked) → Turn p → Block → Type 0
StandsAt p x b =
    Stands p (part_stock x.held.part) (account_table x.a) x.held.fixed (with_rest x.frame b)

-- and so it is before the first of them
pub before-act :
    (p : Checked) (x : Turn p) (l : Label) (a : PlainAct) (b : Block)
    (s : StandsAt p x (first l a b)) (U : Table) →
    Relies p.program (part_stock x.held.part).guards (account_table x.a) U →
    Before p (part_stock x.held.part) U s.fn x.held.fixed x.frame l a b
before-act p x l a b s U r = record { ok = s.ok; sits = s.all U r }

-- an address that gets a new cell was free
fresh-absent :
    (heap : Heap) (base : ℤ) (n : ℕ) → are_free heap base n ≡ true → (a z : ℤ) →
    1 ≤ fresh_cells base n a z → get heap a ≡ None
fresh-absent heap base n free a z h = by (get heap a) refl
  where
    later : Heap
    later = with_cells heap base n

    by : (o : Option ℤ) → get heap a ≡ o → o ≡ None
    by None e = refl
    by (Some w) e =
        let at_z = allocated heap base n free a z in
        let at_w = allocated heap base n free a w in
        let one = count-one heap a w e in
        let same : w ≡ z = some-same w z
        (sym (counted-is (get later a) w (omega (arith, at_w, one)))
        ∙ counted-is (get later a) z (omega (arith, at_z, h))) in
        let here = ap (cells_of heap a) same in
        let most = count-at-most (get later a) z in
        absurd (omega (arith, at_z, one, here, most, h))

-- the frame's part, and cells that are new in the heap
pub recells-fresh :
    (p : Checked) (x : Turn p) (base : ℤ) (n : ℕ) → are_free x.c.heap base n ≡ true →
    Recells (part_stock x.held.part)
    (both p.program (part_stock x.held.part)
    (record { cells = fresh_cells base n; guards = no_guards })) x.c.heap
    (with_cells x.c.heap base n)
recells-fresh p x base n free = record {
  guards = λ k. free-right p.program ((part_stock x.held.part).guards k);
  fit = λ a z m h. let e = allocated x.c.heap base n free a z in omega (arith, e, h);
  come = λ a z h. by a z (cells_of x.held.part.cells a z) refl h;
}
  where
    by :
        (a z : ℤ) (k : ℕ) → cells_of x.held.part.cells a z ≡ k →
        1 ≤ cells_of x.held.part.cells a z + fresh_cells base n a z →
        ((y : ℤ) × (1 ≤ cells_of x.held.part.cells a y)) ⊎ (get x.c.heap a ≡ None)
    by a z zero e h = inr (fresh-absent x.c.heap base n free a z (omega (arith, e, h)))
    by a z (suc k) e h = inl (z, omega (arith, e))

module _ (p : Checked) (ls : Statements p) (stable : Stable p.program) (x : Turn p) where
  abbrev P : PlainProgram
  P = p.program

  abbrev part : Stock
  part = part_stock x.held.part

  abbrev V : Table
  V = account_table x.a

  pub below-waits : AllWait p V (callee_of x.frame x.held) x.below x.waiting
  below-waits =
      (x.sound.stacks x.thread (x.frame ∷ x.below) (x.held ∷ x.waiting) x.has_frames x.has_parts).1

  pub act-set :
      (l : Label) (y : ℕ) (t : Linear) (b : Block) → StandsAt p x (first l (set y t) b) →
      Goes p x (does p.program (spot_of x) l (set y t) b None)
  act-set l y t b s =
      let z = value_in x.frame.store t in
      goes-on p stable x (still p x) (with_value (with_rest x.frame b) y z) (Set z) (record {
        fn = s.fn;
        ok =
            ok-store P s.fn x.held.fixed (with_rest x.frame (first l (set y t) b)) y z b s.ok
            (point-act P s.fn l (set y t) b s.ok.point).0.low
            (point-next P s.fn l (set y t) b s.ok.point);
        all = λ U r.
            ls.sets part U s.fn x.held.fixed x.frame l b y t
            (before-act p x l (set y t) b s U r);
      }) below-waits (λ h. h) tt (λ e. refl)
      (no-access (SomeHasCell (before p stable x (still p x))) (accesses (Set z)) refl)

  act-branch :
      (l : Label) (c : Comp) (a d b : Block) → StandsAt p x (first l (branch c a d) b) →
      (t : Bool) → holds x.frame.store c ≡ t →
      Goes p x (if t then passes (spot_of x) x.c.heap (append a b) (Branch true)
      else passes (spot_of x) x.c.heap (append d b) (Branch false))
  act-branch l c a d b s t e = by t e
    where
      f : Frame
      f = with_rest x.frame (first l (branch c a d) b)

      goes :
          (u : Bool) (rest : Block) →
          (if holds x.frame.store c then append a b else append d b) ≡ rest →
          Point P s.fn rest →
          Goes p x (passes (spot_of x) x.c.heap rest (Branch u))
      goes u rest same q =
          goes-on p stable x (still p x) (with_rest x.frame rest) (Branch u) (record {
            fn = s.fn;
            ok = ok-rest P s.fn x.held.fixed f rest s.ok q;
            all = λ U r.
                subst (λ k. Sits p part U s.fn x.held.fixed (with_rest x.frame k)) same
                (ls.branches part U s.fn x.held.fixed x.frame l b c a d
                (before-act p x l (branch c a d) b s U r));
          }) below-waits (λ h. h) tt (λ e. refl)
          (no-access (SomeHasCell (before p stable x (still p x))) (accesses (Branch u)) refl)

      by :
          (t : Bool) → holds x.frame.store c ≡ t →
          Goes p x (if t then passes (spot_of x) x.c.heap (append a b) (Branch true)
          else passes (spot_of x) x.c.heap (append d b) (Branch false))
      by true e =
          goes true (append a b) (ap (λ u. if u then append a b else append d b) e)
          (point-then P s.fn l c a d b s.ok.point)
      by false e =
          goes false (append d b) (ap (λ u. if u then append a b else append d b) e)
          (point-else P s.fn l c a d b s.ok.point)

  pub act-check :
      (l : Label) (c : Comp) (b : Block) → StandsAt p x (first l (check c) b) →
      Goes p x (does p.program (spot_of x) l (check c) b None)
  act-check l c b s =
      let at_now = λ (U : Table) (r : Relies P part.guards V U).
      ls.checks part U s.fn x.held.fixed x.frame l b c (before-act p x l (check c) b s U r) in
      subst (λ t. Goes p x (if t then passes (spot_of x) x.c.heap b Assert
      else fault (Failed l.place))) (sym (at_now V (relies-same P part.guards V)).0)
      (goes-on p stable x (still p x) (with_rest x.frame b) Assert (record {
        fn = s.fn;
        ok =
            ok-rest P s.fn x.held.fixed (with_rest x.frame (first l (check c) b)) b s.ok
            (point-next P s.fn l (check c) b s.ok.point);
        all = λ U r. (at_now U r).1;
      }) below-waits (λ h. h) tt (λ e. refl)
      (no-access (SomeHasCell (before p stable x (still p x))) (accesses Assert) refl))

  is-one : (z : ℤ) → int_le (pos 1) z ≡ true → pos 1 ≤ℤ z
  is-one z e = grind (arith, ints)

  act-alloc :
      (l : Label) (y n : ℕ) (b : Block) (base : ℤ) → StandsAt p x (first l (alloc y n) b) →
      (t : Bool) → may_be_at x.c.heap base n ≡ t →
      Goes p x (if t then sets (spot_of x) (with_cells x.c.heap base n) b y base (Alloc base)
      else disabled)
  act-alloc l y n b base s false e = tt
  act-alloc l y n b base s true e =
      let free = both-true (int_le (pos 1) base) (are_free x.c.heap base n) e in
      let more = both P part (record { cells = fresh_cells base n; guards = no_guards }) in
      let k = recelling p x (with_cells x.c.heap base n) more (recells-fresh p x base n free.1) in
      goes-on p stable x k (with_value (with_rest x.frame b) y base) (Alloc base) (record {
        fn = s.fn;
        ok =
            ok-store P s.fn x.held.fixed (with_rest x.frame (first l (alloc y n) b)) y base b s.ok
            (point-act P s.fn l (alloc y n) b s.ok.point).0.low
            (point-next P s.fn l (alloc y n) b s.ok.point);
        all = λ U r.
            ls.allocs part U s.fn x.held.fixed x.frame l b y n base (is-one base free.0)
            (before-act p x l (alloc y n) b s U
            (relies-less P part.guards more.guards V U
            (inside-guards P part more
            (inside-first P part (record { cells = fresh_cells base n; guards = no_guards }))) r));
      }) below-waits (λ h. h) tt (λ e. refl)
      (no-access (SomeHasCell (before p stable x k)) (accesses (Alloc base)) refl)

  pub branch-goes :
      (l : Label) (c : Comp) (a d b : Block) → StandsAt p x (first l (branch c a d) b) →
      Goes p x (does p.program (spot_of x) l (branch c a d) b None)
  branch-goes l c a d b s = act-branch l c a d b s (holds x.frame.store c) refl

  pub alloc-goes :
      (l : Label) (y n : ℕ) (b : Block) (base : ℤ) → StandsAt p x (first l (alloc y n) b) →
      Goes p x (does p.program (spot_of x) l (alloc y n) b (Some base))
  alloc-goes l y n b base s = act-alloc l y n b base s (may_be_at x.c.heap base n) refl
