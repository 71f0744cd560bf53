-- No account follows the last return of a thread that promises what the heap doesn't hold.
use Rattle.std.proofs.Common.{◌≡◌, ℕ, ℤ, pos, ◌≤ℤ◌, ◌<ℤ◌, List, [], ◌∷◌, Option, Some, None, refl, sym, ap, subst, ◌∙◌, arith}
use Rattle.std.specs.Prelude.{slice_get}
use Rattle.std.specs.FinMap.{get, empty}
use Rattle.cap_lin.specs.Linear.{number}
use Rattle.cap_lin.specs.Values.{Valuation, parts_value, value}
use Rattle.cap_prog.specs.declared.assertion.Slot.TheVariants.{Is}
use Rattle.cap_prog.specs.Program.{Items, none, PlainFunction, PlainProgram}
use Rattle.cap_machine.specs.declared.event.Entry.{Entry}
use Rattle.cap_machine.specs.declared.event.Event.{Event}
use Rattle.cap_machine.specs.declared.event.Event.TheVariants.{End}
use Rattle.cap_machine.specs.Machine.{Heap, Frame, Configuration, next, start, step}
use Rattle.cap_machine_accounts.specs.Parts.{Part}
use Rattle.cap_machine_accounts.specs.Assertions.{NameValue, IsOwned, Met}
use Rattle.cap_machine_accounts.specs.Accounts.{Account, table}
use Rattle.cap_machine_accounts.specs.Following.{Follows}
use Rattle.cap_machine_accounts.specs.Safety.{KeepsContracts, MeetsAtReturn, IfStepped, IsTracked, whole_part, first_account, Start}
use Rattle.cap_machine_examples.specs.Example.{cell_at_5}
use Rattle.cap_machine_examples.specs.LastReturns.{cell_holds, promising_main, promising_program, LastReturnsAreKept}
use Rattle.cap_machine_examples.proofs.Accepted.{alone-key}
use Rattle.cap_machine_examples.proofs.Example.{none-some, some-same, get-nothing, get-alone, zero-not-one}
use Rattle.cap_machine_examples.proofs.Values.{numbers, value-number}

-- a part that has what main promises has its cell
promised :
    (p : PlainProgram) (b : Account) (handed : Part) (r : Items) (args : List ℤ)
    (fixed : List NameValue) (v : ℤ) →
    Met p (table b) handed (promising_main r) args fixed v →
    get handed.cells (pos 5) ≡ Some (pos 1)
promised p b handed r args fixed v m =
    let o : IsOwned m.values (number (pos 5)) (Is (number (pos 1))) handed = m.met.1.1.0 in
    subst (λ x. get handed.cells x ≡ Some (pos 1)) (value-number m.values.whole (pos 5))
    (o.is_cell ∙ ap Some (sym o.content_is ∙ value-number m.values.whole (pos 1)))

abbrev main_first : Entry
main_first = record { thread = 0; base = None }

abbrev ended : Heap → Configuration
ended heap = record { heap = heap; threads = [] ∷ [] }

-- main's return, which is its only step
abbrev Stepped : Items → Heap → Configuration → Event → Type 0
Stepped r heap d event =
    (b : Account) × (handed : Part)
    × Follows (promising_program r) heap 0 event (first_account heap []) b handed
    × KeepsContracts (promising_program r) 0 event
    (start (promising_program r) [] heap) d (first_account heap []) b handed
    × IsTracked (promising_program r) [] d b

ends-so :
    (r : Items) (heap : Heap) →
    step (promising_program r) (start (promising_program r) [] heap) main_first
    ≡ next (ended heap) (End (pos 0))
unfolding value parts_value
ends-so r heap = refl

returned :
    (r : Items) (heap : Heap) (b : Account) (handed : Part) →
    MeetsAtReturn (promising_program r) (start (promising_program r) [] heap)
    (first_account heap []) b 0 handed (pos 0) →
    get handed.cells (pos 5) ≡ Some (pos 1)
returned r heap b handed m =
    let frame = some-same _ m.0.frame m.0.is_frame in
    let function : promising_main r ≡ m.0.function =
    some-same (promising_main r) m.0.function
    (ap (λ (f : Frame). slice_get (promising_program r).functions f.function) frame
    ∙ m.0.is_function) in
    promised (promising_program r) b handed r m.0.frame.arguments m.0.held.fixed (pos 0)
    (subst
    (λ g.
    Met (promising_program r) (table b) handed g m.0.frame.arguments m.0.held.fixed (pos 0))
    (sym function) m.1)

-- so the heap has it
in-heap :
    (r : Items) (heap : Heap) →
    IsTracked (promising_program r) (main_first ∷ [])
    (start (promising_program r) [] heap) (first_account heap []) →
    get heap (pos 5) ≡ Some (pos 1)
in-heap r heap t =
    let s = subst (IfStepped (Stepped r heap)) (ends-so r heap) t.1 in
    s.2.handed_within (pos 5) (pos 1) (returned r heap s.0 s.1 s.3)

begins : Start (promising_program (cell_holds (pos 0))) (promising_main (cell_holds (pos 0))) [] (cell_at_5 (pos 0)) []
begins = record {
  is_main = refl;
  arity = refl;
  values_fit = tt;
  positive = λ a v e.
      subst (λ x. pos 1 ≤ℤ x) (sym (alone-key (pos 5) (pos 0) a v e).0) (omega arith);
  meets = record {
    values = numbers [];
    args_are = tt;
    fixed_are = tt;
    met = (
      _,
      (
        _,
        (
          record {
            number = pos 0;
            positive =
                subst (λ x. pos 0 <ℤ x) (sym (value-number (numbers []).whole (pos 5))) (omega arith);
            is_cell = ap (get (cell_at_5 (pos 0))) (value-number (numbers []).whole (pos 5))
                ∙ get-alone (pos 5) (pos 0) (pos 5);
            content_is = value-number (numbers []).whole (pos 0);
          },
          refl,
        ),
        refl,
      ),
    );
  };
}

begins-empty : Start (promising_program none) (promising_main none) [] empty []
begins-empty = record {
  is_main = refl;
  arity = refl;
  values_fit = tt;
  positive = λ a v e. absurd (none-some (sym (get-nothing a) ∙ e));
  meets = record {
    values = numbers [];
    args_are = tt;
    fixed_are = tt;
    met = (whole_part empty, refl);
  };
}

pub last-returns : LastReturnsAreKept
last-returns = record {
  another_value = λ safe.
      zero-not-one
      (some-same (pos 0) (pos 1)
      (sym (get-alone (pos 5) (pos 0) (pos 5))
      ∙ in-heap (cell_holds (pos 0)) (cell_at_5 (pos 0))
      (safe (promising_main (cell_holds (pos 0))) [] (cell_at_5 (pos 0)) [] (main_first ∷ [])
      begins)));
  no_cell = λ safe.
      none-some
      (sym (get-nothing (pos 5))
      ∙ in-heap none empty
      (safe (promising_main none) [] empty [] (main_first ∷ []) begins-empty));
}
