-- Contracts that are met, and those that aren't.
use Rattle.std.proofs.Common.{◌≡◌, ℕ, ℤ, pos, ◌≤ℤ◌, ◌<ℤ◌, List, [], ◌∷◌, length, Option, Some, None, refl, sym, ap, subst, ◌∙◌, arith}
use Rattle.std.specs.Prelude.{slice_get}
use Rattle.std.specs.Cmp.{int_cmp_total}
use Rattle.std.specs.FinMap.{get, insert, empty, get-insert}
use Rattle.std.proofs.lemmas.Int.{ints}
use Rattle.cap_lin.specs.Linear.{variable}
use Rattle.cap_prog.specs.Program.{PlainFunction}
use Rattle.cap_machine.specs.Machine.{Frame, Thread}
use Rattle.cap_machine_accounts.specs.Parts.{Part, no_part}
use Rattle.cap_machine_accounts.specs.Assertions.{NameValue, a_number, MeetsRequires, Met}
use Rattle.cap_machine_accounts.specs.Accounts.{Held}
use Rattle.cap_machine_accounts.specs.Safety.{TopFrame, whole_part}
use Rattle.cap_machine_examples.specs.Example.{main_function, cell_at_5}
use Rattle.cap_machine_examples.specs.Validity.{cell_at}
use Rattle.cap_machine_examples.specs.Promises.{keep_function, keep_program, Requires, Ensures, ContractConditions, Starts, StartConditions, keep_frame, running, has_one, account_of, IsTop, FrameConditions}
use Rattle.cap_machine_examples.proofs.Example.{none-some, some-same, get-nothing, get-alone}
use Rattle.cap_machine_examples.proofs.Accepted.{alone-key}
use Rattle.cap_machine_examples.proofs.Values.{numbers, value-variable, apart, its-value, owns, owned-is}

-- ---- contracts

requires-by : (q : Part) (x v : ℤ) → pos 0 <ℤ x → get q.cells x ≡ Some v → Requires q x v
requires-by q x v l e = record {
  values = numbers (x ∷ v ∷ []);
  args_are = (refl, tt);
  fixed_are = (refl, tt);
  met = (
    _,
    (
      _,
      (
        owns (numbers (x ∷ v ∷ [])) q (variable 0) (variable 1) x v
            (value-variable (numbers (x ∷ v ∷ [])).whole 0)
            (value-variable (numbers (x ∷ v ∷ [])).whole 1) l e,
        refl,
      ),
      refl,
    ),
  );
}

requires-cell : (q : Part) (x v : ℤ) → Requires q x v → get q.cells x ≡ Some v
requires-cell q x v m =
    owned-is m.values q (variable 0) (variable 1) x v
    (value-variable m.values.whole 0 ∙ m.args_are.0)
    (value-variable m.values.whole 1 ∙ m.fixed_are.0) m.met.1.1.0

ensures-by : (q : Part) (x v : ℤ) → pos 0 <ℤ x → get q.cells x ≡ Some v → Ensures q x v v
ensures-by q x v l e = record {
  values = numbers (x ∷ v ∷ v ∷ []);
  args_are = (refl, tt);
  fixed_are = (refl, tt);
  result_is = refl;
  met = (
    _,
    (
      _,
      (
        owns (numbers (x ∷ v ∷ v ∷ [])) q (variable 0) (variable 1) x v
            (value-variable (numbers (x ∷ v ∷ v ∷ [])).whole 0)
            (value-variable (numbers (x ∷ v ∷ v ∷ [])).whole 1) l e,
        refl,
      ),
      (
        _,
        (
          value-variable (numbers (x ∷ v ∷ v ∷ [])).whole 2
              ∙ sym (value-variable (numbers (x ∷ v ∷ v ∷ [])).whole 1),
          refl,
        ),
        refl,
      ),
    ),
  );
}

ensures-cell : (q : Part) (x v result : ℤ) → Ensures q x v result → get q.cells x ≡ Some v
ensures-cell q x v result m =
    owned-is m.values q (variable 0) (variable 1) x v
    (value-variable m.values.whole 0 ∙ m.args_are.0)
    (value-variable m.values.whole 1 ∙ m.fixed_are.0) m.met.1.1.0

ensures-result : (q : Part) (x v result : ℤ) → Ensures q x v result → result ≡ v
ensures-result q x v result m =
    sym m.result_is
    ∙ (sym (value-variable m.values.whole 2)
    ∙ (m.met.1.2.1.0 ∙ (value-variable m.values.whole 1 ∙ m.fixed_are.0)))

five-one : get (cell_at (pos 5) (pos 1)).cells (pos 5) ≡ Some (pos 1)
five-one = get-alone (pos 5) (pos 1) (pos 5)

not-at-nine : get (cell_at (pos 5) (pos 1)).cells (pos 9) ≡ Some (pos 1) → ⊥
not-at-nine e = none-some (sym (get-alone (pos 5) (pos 1) (pos 9)) ∙ e)

pub contracts : ContractConditions
contracts = record {
  required = requires-by (cell_at (pos 5) (pos 1)) (pos 5) (pos 1) (omega arith) five-one;
  another_argument = λ m. not-at-nine (requires-cell (cell_at (pos 5) (pos 1)) (pos 9) (pos 1) m);
  another_value = λ m.
      apart 1 0 (λ e. omega (arith, e))
      (its-value (pos 5) (pos 1) (pos 0) five-one
      (requires-cell (cell_at (pos 5) (pos 1)) (pos 5) (pos 0) m));
  no_cell = λ m.
      none-some (sym (get-nothing (pos 5)) ∙ requires-cell no_part (pos 5) (pos 1) m);
  ensured = ensures-by (cell_at (pos 5) (pos 1)) (pos 5) (pos 1) (omega arith) five-one;
  another_argument_at_return = λ m.
      not-at-nine (ensures-cell (cell_at (pos 5) (pos 1)) (pos 9) (pos 1) (pos 1) m);
  another_value_at_return = λ m.
      apart 0 1 (λ e. omega (arith, e))
      (its-value (pos 5) (pos 0) (pos 1) (get-alone (pos 5) (pos 0) (pos 5))
      (ensures-cell (cell_at (pos 5) (pos 0)) (pos 5) (pos 1) (pos 0) m));
  another_result = λ m.
      apart 0 1 (λ e. omega (arith, e))
      (ensures-result (cell_at (pos 5) (pos 1)) (pos 5) (pos 1) (pos 0) m);
  no_cell_at_return = λ m.
      none-some (sym (get-nothing (pos 5)) ∙ ensures-cell no_part (pos 5) (pos 1) (pos 1) m);
}

-- ---- starts

starts : Starts keep_function (pos 5 ∷ []) (cell_at_5 (pos 0)) (a_number (pos 0) ∷ [])
starts = record {
  is_main = refl;
  arity = refl;
  values_fit = (tt, tt);
  positive = λ a v e.
      subst (λ x. pos 1 ≤ℤ x) (sym (alone-key (pos 5) (pos 0) a v e).0) (omega arith);
  meets = requires-by (whole_part (cell_at_5 (pos 0))) (pos 5) (pos 0) (omega arith)
      (get-alone (pos 5) (pos 0) (pos 5));
}

no-main : ¬ Starts main_function (pos 5 ∷ []) (cell_at_5 (pos 0)) []
no-main s =
    let e : 1 ≡ 0 = ap (λ f. length f.fixed) (some-same keep_function main_function s.is_main) in
    omega (arith, e)

many-arguments :
    ¬ Starts keep_function (pos 5 ∷ pos 0 ∷ []) (cell_at_5 (pos 0)) (a_number (pos 0) ∷ [])
many-arguments s = let e : 2 ≡ 1 = s.arity in omega (arith, e)

no-positive :
    ¬ Starts keep_function (pos 5 ∷ []) (insert (cell_at_5 (pos 0)) (pos 0) (pos 0))
    (a_number (pos 0) ∷ [])
no-positive s =
    let l : pos 1 ≤ℤ pos 0 =
    s.positive (pos 0) (pos 0)
    (get-insert int_cmp_total (cell_at_5 (pos 0)) (pos 0) (pos 0) (pos 0)) in
    omega (arith, ints, l)

pub start-conditions : StartConditions
start-conditions = record {
  starts = starts;
  another_main = no-main;
  too_many_arguments = many-arguments;
  too_many_values = λ s. s.values_fit.1;
  cell_at_no_positive_address = no-positive;
  precondition_that_is_not_met = λ s.
      none-some
      (sym (get-nothing (pos 5)) ∙ requires-cell (whole_part empty) (pos 5) (pos 0) s.meets);
}

-- ---- frames

abbrev on_top : (q : Part) → IsTop (keep_frame 0 ∷ []) (has_one q)
on_top q = record {
  frame = keep_frame 0;
  is_frame = refl;
  held = record { part = q; fixed = a_number (pos 1) ∷ [] };
  is_held = refl;
  function = keep_function;
  is_function = refl;
}

-- what a top frame is, its contract is that of `keep` at 5
at-top :
    (q : Part) (P : PlainFunction → List ℤ → Part → List NameValue → Type 0)
    (t : IsTop (keep_frame 0 ∷ []) (has_one q)) →
    P t.function t.frame.arguments t.held.part t.held.fixed →
    P keep_function (pos 5 ∷ []) q (a_number (pos 1) ∷ [])
at-top q P t x =
    let frame = some-same (keep_frame 0) t.frame t.is_frame in
    let function : keep_function ≡ t.function =
    some-same keep_function t.function
    (ap (λ (f : Frame). slice_get keep_program.functions f.function) frame ∙ t.is_function) in
    let held : record { part = q; fixed = a_number (pos 1) ∷ [] } ≡ t.held =
    some-same _ t.held t.is_held in
    subst (λ h. P keep_function (pos 5 ∷ []) h.part h.fixed) (sym held)
    (subst (λ f. P keep_function f.arguments t.held.part t.held.fixed) (sym frame)
    (subst (λ f. P f t.frame.arguments t.held.part t.held.fixed) (sym function) x))

required-of :
    (q : Part) (t : IsTop (keep_frame 0 ∷ []) (has_one q)) →
    MeetsRequires keep_program [] t.held.part t.function t.frame.arguments t.held.fixed →
    Requires q (pos 5) (pos 1)
required-of q t m =
    at-top q (λ f args r fixed. MeetsRequires keep_program [] r f args fixed) t m

ensured-of :
    (q handed : Part) (result : ℤ) (t : IsTop (keep_frame 0 ∷ []) (has_one q)) →
    Met keep_program [] handed t.function t.frame.arguments t.held.fixed result →
    Ensures handed (pos 5) (pos 1) result
ensured-of q handed result t m =
    at-top q (λ f args r fixed. Met keep_program [] handed f args fixed result) t m

no-function : ¬ IsTop (keep_frame 1 ∷ []) (has_one no_part)
no-function t =
    none-some
    (ap (λ (f : Frame). slice_get keep_program.functions f.function)
    (some-same (keep_frame 1) t.frame t.is_frame)
    ∙ t.is_function)

pub frame-conditions : FrameConditions
frame-conditions = record {
  top = on_top no_part;
  no_frame = λ t. none-some t.is_frame;
  no_part_of_it = λ t. none-some t.is_held;
  no_such_function = no-function;
  called = (on_top (cell_at (pos 5) (pos 1)), contracts.required);
  called_without = λ x. contracts.no_cell (required-of no_part x.0 x.1);
  forked = (on_top (cell_at (pos 5) (pos 1)), contracts.required);
  forked_without = λ x. contracts.no_cell (required-of no_part x.0 x.1);
  returned = (on_top (cell_at (pos 5) (pos 1)), contracts.ensured);
  returned_with_another_value = λ x. changed x.0 x.1;
  ended = (on_top (cell_at (pos 5) (pos 1)), contracts.ensured);
  ended_with_another_value = λ x. changed x.0 x.1;
}
  where
    changed :
        (t : IsTop (keep_frame 0 ∷ []) (has_one (cell_at (pos 5) (pos 0)))) →
        Met keep_program [] (cell_at (pos 5) (pos 0)) t.function t.frame.arguments t.held.fixed
        (pos 1) →
        ⊥
    changed t m =
        apart 0 1 (λ e. omega (arith, e))
        (its-value (pos 5) (pos 0) (pos 1) (get-alone (pos 5) (pos 0) (pos 5))
        (ensures-cell (cell_at (pos 5) (pos 0)) (pos 5) (pos 1) (pos 1)
        (ensured-of (cell_at (pos 5) (pos 0)) (cell_at (pos 5) (pos 0)) (pos 1) t m)))
