-- What the machine does at a heap statement, by what the cell holds: another heap, another frame, and
-- the tree into which a walk goes.
use Rattle.std.proofs.Common.{◌≡◌, ℕ, ◌+◌, ℤ, pos, ◌+ℤ◌, Bool, true, false, List, ◌∷◌, Option, Some, None, refl, sym, ap, ◌∙◌, subst, arith}
use Rattle.std.specs.Prelude.{slice_set, if◌then◌else◌}
use Rattle.std.specs.FinMap.{get, insert, remove}
use Rattle.cap_lin.specs.Linear.{Linear, same_number}
use Rattle.cap_prog.specs.Program.{Label, PlainAct, set, read, write, cas, faa, dispose, alloc, call, fork, branch, loop, check, give_back, Block, first, PlainFunction}
use Rattle.cap_rules.specs.Closing.{address_of}
use Rattle.cap_machine.specs.Machine.{Heap, Frame, Configuration, next, value_in, with_rest, with_value, passes, sets, at_cell, swaps, adds, does}
use Rattle.cap_machine.specs.declared.event.Event.{Event}
use Rattle.cap_machine.specs.declared.event.Event.TheVariants.{Read, Write, Cas, Faa, Dispose}
use Rattle.cap_machine_accounts.specs.Parts.{Part, no_part}
use Rattle.cap_machine_accounts.specs.Accounts.{Held, Account}
use Rattle.cap_machine_accounts.specs.Assertions.{NameValue}
use Rattle.cap_machine_accounts.specs.Following.{StaysOn, FramesFollow, accesses}
use Rattle.cap_machine_accounts.specs.Safety.{KeepsContracts}
use Rattle.cap_account_resources.specs.Parts.{one_cell, cells_of}
use Rattle.cap_account_resources.proofs.Lists.{none-some, some-same}
use Rattle.cap_account_resources.proofs.Heaps.{written, removed}
use Rattle.cap_account_states.proofs.Checked.{Checked}
use Rattle.cap_account_steps.proofs.Acts.{swap_number, act_number}
use Rattle.cap_account_steps.proofs.Points.{FrameOk, point-act, point-next, ok-rest, ok-store}
use Rattle.cap_account_steps.proofs.Worlds.{after_cas, after_act, new_content}
use Rattle.cap_account.proofs.Stocked.{callee_of, Turn, spot_of}
use Rattle.cap_account.proofs.Following.{stepping}
use Rattle.cap_account.proofs.Touching.{same-test}
use Rattle.cap_owners_spec.specs.Walks.{act_child}
use Rattle.cap_owners_spec.specs.Steps.{Proved, Scene, takes_seat, moved}

module _ (p : Checked) (x : Turn p) where
  -- a statement at a cell that holds z does this
  pub record DoesSo (l : Label) (a : PlainAct) (b : Block) (t : Linear) (z : ℤ) : Type 0 where
    pub heap : Heap
    pub event : Event
    pub frame : Frame
    pub content : Option ℤ
    pub is : after_act a x.frame b z ≡ (content, frame)
    pub callee : callee_of frame x.held ≡ callee_of x.frame x.held
    pub puts :
        (c y : ℤ) →
        cells_of heap c y + one_cell (value_in x.frame.store t) z c y
        ≡ cells_of x.c.heap c y + new_content (value_in x.frame.store t) content c y
    pub child : act_child event ≡ act_number a x.frame z
    pub at : accesses event ≡ Some (value_in x.frame.store t)
    pub frames :
        (new : List (List Held)) (left : List Part) → StaysOn (stepping x) new left →
        FramesFollow event (stepping x) new no_part left
    pub keeps :
        (c : Configuration) (e : Account) →
        KeepsContracts p.program x.thread event x.c c x.a e no_part
    pub moves : (d : Proved) (s : Scene) → moved d s event ≡ takes_seat d s event
    pub does_is :
        does p.program (spot_of x) l a b None
        ≡ next (record {
          heap = heap;
          threads = slice_set x.c.threads x.thread (frame ∷ x.below);
        }) event

  -- a swap, by its test
  swaps-so :
      (l : Label) (y : ℕ) (t old new : Linear) (b : Block) (z : ℤ) →
      get x.c.heap (value_in x.frame.store t) ≡ Some z → (u : Bool) →
      same_number z (value_in x.frame.store old) ≡ u → DoesSo l (cas y t old new) b t z
  swaps-so l y t old new b z cell true e =
      let ad = value_in x.frame.store t in
      let from = value_in x.frame.store old in
      let w = value_in x.frame.store new in
      record {
        heap = insert x.c.heap ad w;
        event = Cas ad true;
        frame = with_value (with_rest x.frame b) y (pos 1);
        content = Some w;
        is = ap (λ u. after_cas u (with_rest x.frame b) y z w) e;
        callee = refl;
        puts = λ c k. written x.c.heap ad z w c k cell;
        child = sym (ap swap_number e);
        at = refl;
        frames = λ hs left k. k;
        keeps = λ c k. tt;
        moves = λ d s. refl;
        does_is =
            ap (λ o. at_cell ad o (swaps (spot_of x) b y ad from w)) cell
            ∙ ap (λ u. if u then sets (spot_of x) (insert x.c.heap ad w) b y (pos 1) (Cas ad true)
            else sets (spot_of x) x.c.heap b y (pos 0) (Cas ad false))
            (same-test z from ∙ e);
      }
  swaps-so l y t old new b z cell false e =
      let ad = value_in x.frame.store t in
      let from = value_in x.frame.store old in
      let w = value_in x.frame.store new in
      record {
        heap = x.c.heap;
        event = Cas ad false;
        frame = with_value (with_rest x.frame b) y (pos 0);
        content = Some z;
        is = ap (λ u. after_cas u (with_rest x.frame b) y z w) e;
        callee = refl;
        puts = λ c k. refl;
        child = sym (ap swap_number e);
        at = refl;
        frames = λ hs left k. k;
        keeps = λ c k. tt;
        moves = λ d s. refl;
        does_is =
            ap (λ o. at_cell ad o (swaps (spot_of x) b y ad from w)) cell
            ∙ ap (λ u. if u then sets (spot_of x) (insert x.c.heap ad w) b y (pos 1) (Cas ad true)
            else sets (spot_of x) x.c.heap b y (pos 0) (Cas ad false))
            (same-test z from ∙ e);
      }

  pub does-so :
      (l : Label) (a : PlainAct) (b : Block) (t : Linear) → address_of a ≡ Some t → (z : ℤ) →
      get x.c.heap (value_in x.frame.store t) ≡ Some z → DoesSo l a b t z
  does-so l (read y q) b t is z cell =
      let ad = value_in x.frame.store t in
      let same = sym (some-same q t is) in
      subst (λ q. DoesSo l (read y q) b t z) same (record {
        heap = x.c.heap;
        event = Read ad z;
        frame = with_value (with_rest x.frame b) y z;
        content = Some z;
        is = refl;
        callee = refl;
        puts = λ c k. refl;
        child = refl;
        at = refl;
        frames = λ hs left k. k;
        keeps = λ c k. tt;
        moves = λ d s. refl;
        does_is = ap (λ o. at_cell ad o (λ v. sets (spot_of x) x.c.heap b y v (Read ad v))) cell;
      })
  does-so l (write q u) b t is z cell =
      let ad = value_in x.frame.store t in
      let w = value_in x.frame.store u in
      let same = sym (some-same q t is) in
      subst (λ q. DoesSo l (write q u) b t z) same (record {
        heap = insert x.c.heap ad w;
        event = Write ad w;
        frame = with_rest x.frame b;
        content = Some w;
        is = refl;
        callee = refl;
        puts = λ c k. written x.c.heap ad z w c k cell;
        child = refl;
        at = refl;
        frames = λ hs left k. k;
        keeps = λ c k. tt;
        moves = λ d s. refl;
        does_is =
            ap (λ o. at_cell ad o (λ v. passes (spot_of x) (insert x.c.heap ad w) b (Write ad w)))
            cell;
      })
  does-so l (cas y q old new) b t is z cell =
      let same = sym (some-same q t is) in
      subst (λ q. DoesSo l (cas y q old new) b t z) same
      (swaps-so l y t old new b z cell (same_number z (value_in x.frame.store old)) refl)
  does-so l (faa y q u) b t is z cell =
      let ad = value_in x.frame.store t in
      let added = value_in x.frame.store u in
      let w = z +ℤ added in
      let same = sym (some-same q t is) in
      subst (λ q. DoesSo l (faa y q u) b t z) same (record {
        heap = insert x.c.heap ad w;
        event = Faa ad z;
        frame = with_value (with_rest x.frame b) y z;
        content = Some w;
        is = refl;
        callee = refl;
        puts = λ c k. written x.c.heap ad z w c k cell;
        child = refl;
        at = refl;
        frames = λ hs left k. k;
        keeps = λ c k. tt;
        moves = λ d s. refl;
        does_is = ap (λ o. at_cell ad o (adds (spot_of x) b y ad added)) cell;
      })
  does-so l (dispose q) b t is z cell =
      let ad = value_in x.frame.store t in
      let same = sym (some-same q t is) in
      subst (λ q. DoesSo l (dispose q) b t z) same (record {
        heap = remove x.c.heap ad;
        event = Dispose ad;
        frame = with_rest x.frame b;
        content = None;
        is = refl;
        callee = refl;
        puts = λ c k. let e = removed x.c.heap ad z c k cell in omega (arith, e);
        child = refl;
        at = refl;
        frames = λ hs left k. k;
        keeps = λ c k. tt;
        moves = λ d s. refl;
        does_is =
            ap (λ o. at_cell ad o (λ v. passes (spot_of x) (remove x.c.heap ad) b (Dispose ad)))
            cell;
      })
  does-so l (set y q) b t is z cell = absurd (none-some is)
  does-so l (alloc y m) b t is z cell = absurd (none-some is)
  does-so l (call y m us) b t is z cell = absurd (none-some is)
  does-so l (fork m us) b t is z cell = absurd (none-some is)
  does-so l (branch c y q) b t is z cell = absurd (none-some is)
  does-so l (loop c i y) b t is z cell = absurd (none-some is)
  does-so l (check c) b t is z cell = absurd (none-some is)
  does-so l (give_back q) b t is z cell = absurd (none-some is)

-- the frame is in order then, whatever the cell holds
module _ (p : Checked) (fn : PlainFunction) (fixed : List NameValue) (f : Frame) (l : Label)
    (b : Block) where
  pub ok-then :
      (a : PlainAct) (t : Linear) → address_of a ≡ Some t →
      FrameOk p.program fn fixed (with_rest f (first l a b)) → (z : ℤ) →
      FrameOk p.program fn fixed (after_act a f b z).1
  ok-then (read y q) t is ok z =
      ok-store p.program fn fixed (with_rest f (first l (read y q) b)) y z b ok
      (point-act p.program fn l (read y q) b ok.point).0.low
      (point-next p.program fn l (read y q) b ok.point)
  ok-then (write q u) t is ok z =
      ok-rest p.program fn fixed (with_rest f (first l (write q u) b)) b ok
      (point-next p.program fn l (write q u) b ok.point)
  ok-then (cas y q old new) t is ok z = by (same_number z (value_in f.store old))
    where
      then_value : (w : ℤ) → FrameOk p.program fn fixed (with_value (with_rest f b) y w)
      then_value w =
          ok-store p.program fn fixed (with_rest f (first l (cas y q old new) b)) y w b ok
          (point-act p.program fn l (cas y q old new) b ok.point).0.low
          (point-next p.program fn l (cas y q old new) b ok.point)

      by :
          (u : Bool) →
          FrameOk p.program fn fixed
          (after_cas u (with_rest f b) y z (value_in f.store new)).1
      by true = then_value (pos 1)
      by false = then_value (pos 0)
  ok-then (faa y q u) t is ok z =
      ok-store p.program fn fixed (with_rest f (first l (faa y q u) b)) y z b ok
      (point-act p.program fn l (faa y q u) b ok.point).0.low
      (point-next p.program fn l (faa y q u) b ok.point)
  ok-then (dispose q) t is ok z =
      ok-rest p.program fn fixed (with_rest f (first l (dispose q) b)) b ok
      (point-next p.program fn l (dispose q) b ok.point)
  ok-then (set y q) t is ok z = absurd (none-some is)
  ok-then (alloc y m) t is ok z = absurd (none-some is)
  ok-then (call y m us) t is ok z = absurd (none-some is)
  ok-then (fork m us) t is ok z = absurd (none-some is)
  ok-then (branch c y q) t is ok z = absurd (none-some is)
  ok-then (loop c i y) t is ok z = absurd (none-some is)
  ok-then (check c) t is ok z = absurd (none-some is)
  ok-then (give_back q) t is ok z = absurd (none-some is)
