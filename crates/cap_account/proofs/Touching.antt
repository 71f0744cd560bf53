-- Statements that access a cell, with up to two regions open: read, write, compare and swap, add
-- and dispose.
use Rattle.cap_account_resources.proofs.Order.{same-or, met-relates, unmet-relates}
use Rattle.std.proofs.Common.{◌≡◌, inl, inr, ℕ, ◌+◌, ◌≤◌, ℤ, pos, ◌+ℤ◌, Bool, true, false, List, [], ◌∷◌, Option, Some, None, refl, sym, ap, ◌∙◌, subst, arith}
use Rattle.std.specs.Prelude.{slice_set, if◌then◌else◌}
use Rattle.std.specs.FinMap.{insert, remove}
use Rattle.cap_lin.specs.Linear.{Linear, same_number}
use Rattle.cap_lin.specs.declared.row.Op.TheVariants.{Eq as Equal}
use Rattle.cap_prog.specs.Program.{PlainProgram, Label, PlainAct, read, write, cas, faa, dispose, Block, first}
use Rattle.cap_rules.specs.Closing.{address_of}
use Rattle.cap_machine.specs.Machine.{Heap, Frame, Configuration, next, value_in, compared, with_rest, with_value, passes, sets, at_cell, swaps, adds, does}
use Rattle.cap_machine.specs.declared.event.Event.{Event}
use Rattle.cap_machine.specs.declared.event.Event.TheVariants.{Read, Write, Cas, Faa, Dispose}
use Rattle.cap_machine_accounts.specs.Parts.{Part, no_part}
use Rattle.cap_machine_accounts.specs.Accounts.{Held, Account}
use Rattle.cap_machine_accounts.specs.Following.{StaysOn, FramesFollow, accesses, SomeHasCell}
use Rattle.cap_machine_accounts.specs.Safety.{KeepsContracts}
use Rattle.cap_account_resources.specs.Parts.{Table, one_cell, cells_of}
use Rattle.cap_account_resources.proofs.Lists.{some-same, none-some}
use Rattle.cap_account_resources.proofs.Heaps.{one-itself, one-other, written, removed}
use Rattle.cap_account_resources.proofs.Interference.{relies-same}
use Rattle.cap_account_resources.proofs.Stocks.{Stock, both, all_of}
use Rattle.cap_account_states.proofs.Checked.{Checked}
use Rattle.cap_account_steps.proofs.Regained.{Stable}
use Rattle.cap_account_steps.proofs.Points.{FrameOk, point-act, point-next, ok-rest, ok-store}
use Rattle.cap_account_steps.proofs.Frames.{Stands}
use Rattle.cap_account_steps.proofs.Worlds.{after_cas, after_act, new_content, recelled, HeapStep}
use Rattle.cap_account_steps.proofs.Statements.{Statements}
use Rattle.cap_account.proofs.Stocked.{part_stock, owners, share_by, account_table, callee_of, AllWait, Turn, spot_of}
use Rattle.cap_account.proofs.Chosen.{test}
use Rattle.cap_account.proofs.Changes.{Recells, world}
use Rattle.cap_account.proofs.Successors.{scene, Stride}
use Rattle.cap_account.proofs.Following.{stepping, before, cell-before}
use Rattle.cap_account.proofs.Succeeding.{below-wait}
use Rattle.cap_account.proofs.Strides.{Goes, mine, later_threads, goes-on}
use Rattle.cap_account.proofs.Ordinary.{StandsAt, before-act}

-- ---- a cell that gets another content

new-elsewhere : (a : ℤ) (o : Option ℤ) (c y : ℤ) → (c ≡ a → ⊥) → new_content a o c y ≡ 0
new-elsewhere a None c y ne = refl
new-elsewhere a (Some w) c y ne = one-other a w c y ne

pub recells-one :
    (q : Stock) (old new : Heap) (a z : ℤ) (o : Option ℤ) →
    ((c y : ℤ) → one_cell a z c y ≤ q.cells c y) →
    ((c y : ℤ) → cells_of new c y + one_cell a z c y ≡ cells_of old c y + new_content a o c y) →
    Recells q (recelled q a z o) old new
recells-one q old new a z o had puts = record {
  guards = λ n. refl;
  fit = λ c y m h. let i = had c y in let j = puts c y in omega (arith, h, i, j);
  come = λ c y h. elim (same-or c a) [
    | inl e ↦
        let i = had c z in
        let j = ap (λ b. one_cell a z b z) e in
        let k = one-itself a z in
        inl (z, omega (arith, i, j, k))
    | inr ne ↦ let i = new-elsewhere a o c y ne in inl (y, omega (arith, h, i))
  ];
}

-- the machine's test is that of numbers
pub same-test : (a b : ℤ) → compared Equal a b ≡ same_number a b
same-test a b = by (compared Equal a b) refl
  where
    by : (t : Bool) → compared Equal a b ≡ t → compared Equal a b ≡ same_number a b
    by true e = elim (test a b) [
      | inl t ↦ e ∙ sym t.1
      | inr t ↦ absurd (t.0 (met-relates Equal a b e))
    ]
    by false e = elim (test a b) [
      | inl t ↦ absurd (unmet-relates Equal a b e t.0)
      | inr t ↦ e ∙ sym t.1
    ]

module _ (p : Checked) (ls : Statements p) (stable : Stable p.program) (x : Turn p) where
  abbrev P : PlainProgram
  P = p.program

  abbrev V : Table
  V = account_table x.a

  abbrev pub Heaped : PlainAct → Block → Linear → Type 0
  Heaped a b t =
      HeapStep p (account_table x.a) (share_by (owners x.a.regions)) (part_stock x.held.part)
      x.c.heap x.held.fixed x.frame a b t

  stepped :
      (l : Label) (a : PlainAct) (b : Block) (t : Linear) → address_of a ≡ Some t →
      (s : StandsAt p x (first l a b)) →
      ((z : ℤ) → FrameOk p.program s.fn x.held.fixed (after_act a x.frame b z).1) → Heaped a b t
  stepped l a b t e s ok =
      let part = part_stock x.held.part in
      ls.heaps V (share_by (owners x.a.regions)) part x.c.heap s.fn x.held.fixed x.frame l a b t e
      (world P (scene p x)) ok (before-act p x l a b s V (relies-same P part.guards V))

  -- the cell gets another content, and the frame goes on as another one
  pub record Outcome (a : PlainAct) (b : Block) (t : Linear) (h : Heaped a b t) : Type 0 where
    pub heap : Heap
    pub content : Option ℤ
    pub frame : Frame
    pub is : after_act a x.frame b h.content ≡ (content, frame)
    pub callee : callee_of frame x.held ≡ callee_of x.frame x.held
    pub puts :
        (c y : ℤ) →
        cells_of heap c y + one_cell (value_in x.frame.store t) h.content c y
        ≡ cells_of x.c.heap c y + new_content (value_in x.frame.store t) content c y

  abbrev pub touching :
      (a : PlainAct) (b : Block) (t : Linear) (h : Heaped a b t) → Outcome a b t h → Stride p x
  touching a b t h o = record {
    heap = o.heap;
    left = h.kept;
    change = record {
      entered = h.entered;
      differ = h.differ;
      two = h.two;
      held =
          recelled
          (both p.program (part_stock x.held.part)
          (all_of p.program h.entered (share_by (owners x.a.regions))))
          (value_in x.frame.store t) h.content (after_act a x.frame b h.content).0;
      recells =
          recells-one
          (both p.program (part_stock x.held.part)
          (all_of p.program h.entered (share_by (owners x.a.regions))))
          x.c.heap o.heap (value_in x.frame.store t) h.content
          (after_act a x.frame b h.content).0 h.had
          (subst (λ (w : Option ℤ).
          (c y : ℤ) →
          cells_of o.heap c y + one_cell (value_in x.frame.store t) h.content c y
          ≡ cells_of x.c.heap c y + new_content (value_in x.frame.store t) w c y)
          (sym (ap (λ (r : Option ℤ × Frame). r.0) o.is)) o.puts);
      by = h.by;
    };
  }

  abbrev pub touched :
      (a : PlainAct) (b : Block) (t : Linear) (h : Heaped a b t) (o : Outcome a b t h)
      (event : Event) → accesses event ≡ Some (value_in x.frame.store t) →
      ((new : List (List Held)) (left : List Part) → StaysOn (stepping x) new left →
      FramesFollow event (stepping x) new no_part left) →
      ((d : Configuration) (e : Account) →
      KeepsContracts p.program x.thread event x.c d x.a e no_part) →
      Goes p x (next (record {
        heap = o.heap;
        threads = slice_set x.c.threads x.thread (o.frame ∷ x.below);
      }) event)
  touched a b t h o event at frames keeps =
      let y = touching a b t h o in
      let ad = value_in x.frame.store t in
      goes-on p stable x y o.frame event
      (subst (Stands p h.kept h.by.U x.held.fixed) (ap (λ (r : Option ℤ × Frame). r.1) o.is)
      h.stands)
      (subst (λ k. AllWait p h.by.U k x.below x.waiting) (sym o.callee) (below-wait p stable x y))
      (λ k. frames (later_threads p stable x y) ((mine p stable x y).part ∷ []) k)
      (keeps (record {
        heap = o.heap;
        threads = slice_set x.c.threads x.thread (o.frame ∷ x.below);
      }) _)
      (λ e. absurd (none-some (sym e ∙ at)))
      (λ z e.
      let same : ad ≡ z = some-same ad z (sym at ∙ e) in
      subst (λ z. SomeHasCell (before p stable x y) z) same
      (cell-before p stable x y ad h.content
      (let i = h.had ad h.content in let k = one-itself ad h.content in omega (arith, i, k))))

  pub act-read :
      (l : Label) (y : ℕ) (t : Linear) (b : Block) → StandsAt p x (first l (read y t) b) →
      Goes p x (does p.program (spot_of x) l (read y t) b None)
  act-read l y t b s =
      let ad = value_in x.frame.store t in
      let h = stepped l (read y t) b t refl s (λ z.
      ok-store P s.fn x.held.fixed (with_rest x.frame (first l (read y t) b)) y z b s.ok
      (point-act P s.fn l (read y t) b s.ok.point).0.low
      (point-next P s.fn l (read y t) b s.ok.point)) in
      subst (λ o. Goes p x (at_cell ad o (λ v. sets (spot_of x) x.c.heap b y v (Read ad v))))
      (sym h.is_cell)
      (touched (read y t) b t h (record {
        heap = x.c.heap;
        content = Some h.content;
        frame = with_value (with_rest x.frame b) y h.content;
        is = refl;
        callee = refl;
        puts = λ c k. refl;
      }) (Read ad h.content) refl (λ new left k. k) (λ d e. tt))

  pub act-write :
      (l : Label) (t u : Linear) (b : Block) → StandsAt p x (first l (write t u) b) →
      Goes p x (does p.program (spot_of x) l (write t u) b None)
  act-write l t u b s =
      let ad = value_in x.frame.store t in
      let w = value_in x.frame.store u in
      let h = stepped l (write t u) b t refl s (λ z.
      ok-rest P s.fn x.held.fixed (with_rest x.frame (first l (write t u) b)) b s.ok
      (point-next P s.fn l (write t u) b s.ok.point)) in
      subst (λ o. Goes p x (at_cell ad o (λ v.
      passes (spot_of x) (insert x.c.heap ad w) b (Write ad w))))
      (sym h.is_cell)
      (touched (write t u) b t h (record {
        heap = insert x.c.heap ad w;
        content = Some w;
        frame = with_rest x.frame b;
        is = refl;
        callee = refl;
        puts = λ c k. written x.c.heap ad h.content w c k h.is_cell;
      }) (Write ad w) refl (λ new left k. k) (λ d e. tt))

  pub act-add :
      (l : Label) (y : ℕ) (t u : Linear) (b : Block) → StandsAt p x (first l (faa y t u) b) →
      Goes p x (does p.program (spot_of x) l (faa y t u) b None)
  act-add l y t u b s =
      let ad = value_in x.frame.store t in
      let added = value_in x.frame.store u in
      let h = stepped l (faa y t u) b t refl s (λ z.
      ok-store P s.fn x.held.fixed (with_rest x.frame (first l (faa y t u) b)) y z b s.ok
      (point-act P s.fn l (faa y t u) b s.ok.point).0.low
      (point-next P s.fn l (faa y t u) b s.ok.point)) in
      let w = h.content +ℤ added in
      subst (λ o. Goes p x (at_cell ad o (adds (spot_of x) b y ad added))) (sym h.is_cell)
      (touched (faa y t u) b t h (record {
        heap = insert x.c.heap ad w;
        content = Some w;
        frame = with_value (with_rest x.frame b) y h.content;
        is = refl;
        callee = refl;
        puts = λ c k. written x.c.heap ad h.content w c k h.is_cell;
      }) (Faa ad h.content) refl (λ new left k. k) (λ d e. tt))

  pub act-dispose :
      (l : Label) (t : Linear) (b : Block) → StandsAt p x (first l (dispose t) b) →
      Goes p x (does p.program (spot_of x) l (dispose t) b None)
  act-dispose l t b s =
      let ad = value_in x.frame.store t in
      let h = stepped l (dispose t) b t refl s (λ z.
      ok-rest P s.fn x.held.fixed (with_rest x.frame (first l (dispose t) b)) b s.ok
      (point-next P s.fn l (dispose t) b s.ok.point)) in
      subst (λ o. Goes p x (at_cell ad o (λ v.
      passes (spot_of x) (remove x.c.heap ad) b (Dispose ad))))
      (sym h.is_cell)
      (touched (dispose t) b t h (record {
        heap = remove x.c.heap ad;
        content = None;
        frame = with_rest x.frame b;
        is = refl;
        callee = refl;
        puts = λ c k. let e = removed x.c.heap ad h.content c k h.is_cell in omega (arith, e);
      }) (Dispose ad) refl (λ new left k. k) (λ d e. tt))

  -- the swap, by its test
  swapped :
      (y : ℕ) (t old new : Linear) (b : Block) (h : Heaped (cas y t old new) b t) (u : Bool) →
      same_number h.content (value_in x.frame.store old) ≡ u →
      Goes p x (if u then sets (spot_of x) (insert x.c.heap (value_in x.frame.store t)
      (value_in x.frame.store new)) b y (pos 1) (Cas (value_in x.frame.store t) true)
      else sets (spot_of x) x.c.heap b y (pos 0) (Cas (value_in x.frame.store t) false))
  swapped y t old new b h true e =
      let ad = value_in x.frame.store t in
      let w = value_in x.frame.store new in
      touched (cas y t old new) b t h (record {
        heap = insert x.c.heap ad w;
        content = Some w;
        frame = with_value (with_rest x.frame b) y (pos 1);
        is = ap (λ u. after_cas u (with_rest x.frame b) y h.content w) e;
        callee = refl;
        puts = λ c k. written x.c.heap ad h.content w c k h.is_cell;
      }) (Cas ad true) refl (λ new left k. k) (λ d e. tt)
  swapped y t old new b h false e =
      touched (cas y t old new) b t h (record {
        heap = x.c.heap;
        content = Some h.content;
        frame = with_value (with_rest x.frame b) y (pos 0);
        is =
            ap (λ u. after_cas u (with_rest x.frame b) y h.content (value_in x.frame.store new)) e;
        callee = refl;
        puts = λ c k. refl;
      }) (Cas (value_in x.frame.store t) false) refl (λ new left k. k) (λ d e. tt)

  pub act-cas :
      (l : Label) (y : ℕ) (t old new : Linear) (b : Block) →
      StandsAt p x (first l (cas y t old new) b) →
      Goes p x (does p.program (spot_of x) l (cas y t old new) b None)
  act-cas l y t old new b s =
      let ad = value_in x.frame.store t in
      let from = value_in x.frame.store old in
      let to = value_in x.frame.store new in
      let h = stepped l (cas y t old new) b t refl s (λ z. fine z (same_number z from)) in
      subst (λ o. Goes p x (at_cell ad o (swaps (spot_of x) b y ad from to))) (sym h.is_cell)
      (subst (λ u. Goes p x (if u then sets (spot_of x) (insert x.c.heap ad to) b y (pos 1)
      (Cas ad true) else sets (spot_of x) x.c.heap b y (pos 0) (Cas ad false)))
      (sym (same-test h.content from))
      (swapped y t old new b h (same_number h.content from) refl))
    where
      stored : (z : ℤ) → FrameOk P s.fn x.held.fixed (with_value (with_rest x.frame b) y z)
      stored z =
          ok-store P s.fn x.held.fixed (with_rest x.frame (first l (cas y t old new) b)) y z b s.ok
          (point-act P s.fn l (cas y t old new) b s.ok.point).0.low
          (point-next P s.fn l (cas y t old new) b s.ok.point)

      fine :
          (z : ℤ) (u : Bool) →
          FrameOk P s.fn x.held.fixed
          (after_cas u (with_rest x.frame b) y z (value_in x.frame.store new)).1
      fine z true = stored (pos 1)
      fine z false = stored (pos 0)
