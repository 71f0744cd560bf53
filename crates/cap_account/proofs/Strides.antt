-- Steps that open no region, and how the stepping frame goes on.
use Rattle.cap_account_steps.proofs.SettledTables.{opened-apart}
use Rattle.std.proofs.Common.{◌≡◌, inl, inr, ℤ, List, [], ◌∷◌, Option, Some, None, refl, sym, ap, ◌∙◌, subst, arith}
use Rattle.std.specs.Prelude.{slice_set}
use Rattle.cap_prog.specs.Program.{PlainProgram}
use Rattle.cap_machine.specs.Machine.{Heap, Frame, Outcome, next}
use Rattle.cap_machine.specs.declared.event.Event.{Event}
use Rattle.cap_machine_accounts.specs.Parts.{no_part}
use Rattle.cap_machine_accounts.specs.Accounts.{Held}
use Rattle.cap_machine_accounts.specs.Following.{StaysOn, FramesFollow, accesses, SomeHasCell}
use Rattle.cap_machine_accounts.specs.Safety.{KeepsContracts}
use Rattle.cap_account_resources.specs.Parts.{Table}
use Rattle.cap_account_resources.proofs.Lists.{none-some}
use Rattle.cap_account_resources.proofs.Covering.{free-right}
use Rattle.cap_account_resources.proofs.Stocks.{Stock, no_stock, both, Inside, stock-laws, none-right, inside-trans, inside-first, inside-is}
use Rattle.cap_account_resources.proofs.Tables.{new_guards}
use Rattle.cap_account_resources.proofs.Owners.{Owner, owned}
use Rattle.cap_account_states.proofs.Checked.{Checked}
use Rattle.cap_account_assertions.proofs.Laws.{Made}
use Rattle.cap_account_steps.proofs.Regained.{Stable}
use Rattle.cap_account_steps.proofs.Frames.{Stands, HandsOver}
use Rattle.cap_account_steps.proofs.Worlds.{opened_table, Settles}
use Rattle.cap_account.proofs.Stocked.{part_stock, frames_stock, account_table, callee_of, AllWait, Sound, Turn, Followed}
use Rattle.cap_account.proofs.Changes.{Recells, new-opened}
use Rattle.cap_account.proofs.Successors.{others, Stride, all, cut, cut-is, account, left-inside, nothing-fits, nothing-within}
use Rattle.cap_account.proofs.Following.{stepping, before, follows}
use Rattle.cap_account.proofs.Succeeding.{moved}

-- ---- regions are made, and none is opened

module _ (p : Checked) (x : Turn p) where
  abbrev P : PlainProgram
  P = p.program

  abbrev V : Table
  V = account_table x.a

  abbrev part : Stock
  part = part_stock x.held.part

  none-opened : opened_table [] (account_table x.a) ≡ account_table x.a
  none-opened i n = opened-apart [] V n (λ m. m) i

  pub settles-made :
      (U : Table) (new : List Owner) → Made p.program V U new →
      Settles p.program V (opened_table [] (account_table x.a)) U part [] [] new
  settles-made U new made =
      subst (λ W. Settles P V W U part [] [] new) (sym none-opened) (record {
        moved = tt;
        were_open = tt;
        closed_owners = tt;
        made_owners = made.owners;
        closed_differ = tt;
        made_differ = made.differ;
        numbers = refl;
        absent = made.absent;
        others = λ n c m. made.others n m;
      })

  pub budget-made :
      (held left : Stock) (U : Table) (new : List Owner) →
      Inside p.program (both p.program left (owned p.program new))
      (both p.program held (new_guards p.program V U)) →
      Inside p.program (both p.program left (both p.program no_stock (owned p.program new)))
      (both p.program held (new_guards p.program (opened_table [] V) U))
  budget-made held left U new le =
      subst (λ q. Inside P (both P left (both P no_stock (owned P new))) (both P held q))
      (sym (new-opened P [] V U))
      (subst (λ q. Inside P (both P left q) (both P held (new_guards P V U)))
      (sym ((stock-laws P).zero_left (owned P new))) le)

  pub recells-made :
      (held : Stock) (heap : Heap) → Recells part held x.c.heap heap →
      Recells (both p.program part no_stock) held x.c.heap heap
  recells-made held heap r = record {
    guards = λ n. r.guards n ∙ sym (free-right P (part.guards n));
    fit = λ a z m h. r.fit a z m (omega (arith, h));
    come = λ a z h. elim (r.come a z h) [
      | inl k ↦ inl (k.0, let i = k.1 in omega (arith, i))
      | inr none ↦ inr none
    ];
  }

  abbrev pub makes :
      (heap : Heap) (held left : Stock) (U : Table) (new : List Owner) →
      Made p.program (account_table x.a) U new →
      Recells (part_stock x.held.part) held x.c.heap heap →
      Inside p.program (both p.program left (owned p.program new))
      (both p.program held (new_guards p.program (account_table x.a) U)) → Stride p x
  makes heap held left U new made r budget = record {
    heap = heap;
    left = left;
    change = record {
      entered = [];
      differ = tt;
      two = omega arith;
      held = held;
      recells = recells-made held heap r;
      by = record {
        U = U;
        opened = [];
        all_of_them = λ n m. m;
        count = refl;
        closed = [];
        made = new;
        settles = settles-made U new made;
        budget = budget-made held left U new budget;
      };
    };
  }

  pub same-cells : Recells part part x.c.heap x.c.heap
  same-cells = record {
    guards = λ n. refl;
    fit = λ a z m h. h;
    come = λ a z h. inl (z, h);
  }

  pub none-made : Made p.program V V []
  none-made = record { absent = tt; differ = tt; others = λ n m. refl; owners = tt }

  pub made-nothing :
      (held : Stock) →
      Inside p.program (both p.program held no_stock)
      (both p.program held (new_guards p.program V V))
  made-nothing held =
      inside-trans P (both P held no_stock) held (both P held (new_guards P V V))
      (inside-is P (both P held no_stock) held (none-right P held))
      (inside-first P held (new_guards P V V))

  -- cells alone change
  abbrev pub recelling :
      (heap : Heap) (held : Stock) → Recells (part_stock x.held.part) held x.c.heap heap →
      Stride p x
  recelling heap held r =
      makes heap held held (account_table x.a) [] none-made r (made-nothing held)

  -- nothing changes
  abbrev pub still : Stride p x
  still = recelling x.c.heap (part_stock x.held.part) same-cells

  -- something is handed over
  abbrev pub handing :
      (kept given : Stock) →
      HandsOver p.program (account_table x.a) (part_stock x.held.part) kept given → Stride p x
  handing kept given o =
      makes x.c.heap (part_stock x.held.part) (both p.program kept given) o.U o.new o.made
      same-cells o.budget

-- ---- what a step leads to

abbrev pub Goes : (p : Checked) → Turn p → Outcome → Type 0
Goes p x o = Followed p.program x.thread x.c x.a (Sound p) o

pub no-access :
    (A : ℤ → Type 0) (o : Option ℤ) → o ≡ None → (z : ℤ) → o ≡ Some z → A z
no-access A o e z k = absurd (none-some (sym e ∙ k))

module _ (p : Checked) (stable : Stable p.program) (x : Turn p) (y : Stride p x) where
  abbrev pub mine : Held
  mine = record { part = cut p stable x y y.left; fixed = x.held.fixed }

  abbrev pub later_threads : List (List Held)
  later_threads =
      slice_set x.a.threads x.thread
      (record { part = cut p stable x y y.left; fixed = x.held.fixed } ∷ x.waiting)

  pub left-all : Inside p.program y.left (all p stable x y)
  left-all =
      inside-trans p.program y.left (both p.program y.left (others p x)) (all p stable x y)
      (inside-first p.program y.left (others p x)) (left-inside p stable x y)

  -- the stepping frame goes on with what is left to it
  abbrev pub goes-on :
      (g : Frame) (event : Event) → Stands p y.left y.change.by.U x.held.fixed g →
      AllWait p y.change.by.U (callee_of g x.held) x.below x.waiting →
      (StaysOn (stepping x) later_threads (mine.part ∷ []) →
      FramesFollow event (stepping x) later_threads no_part (mine.part ∷ [])) →
      KeepsContracts p.program x.thread event x.c
      (record { heap = y.heap; threads = slice_set x.c.threads x.thread (g ∷ x.below) }) x.a
      (account p stable x y later_threads) no_part →
      (accesses event ≡ None → y.change.by.opened ≡ []) →
      ((z : ℤ) → accesses event ≡ Some z → SomeHasCell (before p stable x y) z) →
      Goes p x (next (record {
        heap = y.heap;
        threads = slice_set x.c.threads x.thread (g ∷ x.below);
      }) event)
  goes-on g event stands waits frames keeps shut access =
      let P = p.program in
      let is = cut-is p stable x y y.left left-all in (
        account p stable x y later_threads,
        no_part,
        follows p stable x y (mine.part ∷ []) (none-right P (part_stock mine.part) ∙ is) event
            later_threads no_part (frames (mine, refl, refl, refl)) (nothing-fits p stable x y)
            (nothing-within x.c.heap) shut access,
        keeps,
        moved p stable x y (g ∷ x.below) (mine ∷ x.waiting)
            (subst (λ q. Stands p q y.change.by.U x.held.fixed g) (sym is) stands, waits)
            (inside-is P (both P (part_stock mine.part) (frames_stock P x.waiting))
            (both P y.left (frames_stock P x.waiting))
            (ap (λ q. both P q (frames_stock P x.waiting)) is)),
      )
