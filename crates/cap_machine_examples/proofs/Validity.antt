-- Accounts that are valid, and those that break one condition.
use Rattle.std.proofs.Common.{◌≡◌, ℕ, ℤ, pos, List, [], ◌∷◌, Option, Some, None, refl, sym, ap, subst, ◌∙◌, arith}
use Rattle.std.specs.Ordering.{int_cmp}
use Rattle.std.specs.Cmp.{int_cmp_total}
use Rattle.std.specs.FinMap.{FinMap, get, get-insert}
use Rattle.cap_galg.specs.Elements.{one, src}
use Rattle.cap_machine_accounts.specs.Parts.{Guard, join_all, no_part, Region}
use Rattle.cap_machine_accounts.specs.Assertions.{a_number, ValuesFit}
use Rattle.cap_machine_accounts.specs.Accounts.{table, CellsApart, CellsWithin, IsValidAccount}
use Rattle.cap_machine_examples.specs.Example.{flag_program, main_function, cell_at_5, configuration_with, flag_part, flag_in}
use Rattle.cap_machine_examples.specs.Expected.{IsRefused, two_cells}
use Rattle.cap_machine_examples.specs.Validity.{with_values, cell_at, two_flags, with_two_cells, guarded, AccountConditions}
use Rattle.cap_machine_examples.proofs.Example.{none-some, some-same, get-nothing, get-alone, one-not-two}
use Rattle.cap_machine_examples.proofs.Accepted.{alone-key, no-cell, no-guards-fit, accepted}
use Rattle.cap_machine_examples.proofs.Values.{apart, its-value}
use Rattle.cap_machine_examples.proofs.Regions.{down-at, not-up}

value-of-none : IsRefused (configuration_with (pos 0)) (with_values (a_number (pos 0) ∷ []))
value-of-none a =
    let x = a.frames.0.0 in
    subst (λ g. ValuesFit g.fixed (a_number (pos 0) ∷ [])) (sym (some-same main_function x.0 x.1))
    x.2

-- ---- two flags

pub five-in-two : get two_cells (pos 5) ≡ Some (pos 0)
five-in-two =
    get-insert int_cmp_total (cell_at_5 (pos 0)) (pos 9) (pos 0) (pos 5)
    ∙ get-alone (pos 5) (pos 0) (pos 5)

pub nine-in-two : get two_cells (pos 9) ≡ Some (pos 0)
nine-in-two = get-insert int_cmp_total (cell_at_5 (pos 0)) (pos 9) (pos 0) (pos 9)

-- a cell that the map has is there
pub alone-within :
    (a v : ℤ) (heap : FinMap int_cmp ℤ) → get heap a ≡ Some v → CellsWithin heap (cell_at a v)
alone-within a v heap e x z h =
    let k = alone-key a v x z h in
    subst (λ y. get heap y ≡ Some z) (sym k.0) (e ∙ ap Some k.1)

five-not-nine : CellsApart (cell_at (pos 5) (pos 0)) (cell_at (pos 9) (pos 0))
five-not-nine a h k =
    apart 5 9 (λ e. omega (arith, e))
    (sym (alone-key (pos 5) (pos 0) a h.0 h.1).0 ∙ (alone-key (pos 9) (pos 0) a k.0 k.1).0)

four-none :
    (a b c d : Option Guard) → a ≡ None → b ≡ None → c ≡ None → d ≡ None →
    join_all (a ∷ b ∷ c ∷ d ∷ []) ≡ Some None
four-none a b c d x y z w = rw (x, y, z, w) refl

two-numbers : IsValidAccount flag_program with_two_cells (two_flags (pos 2))
two-numbers = record {
  frames = (((main_function, refl, tt), tt), (((main_function, refl, tt), tt), tt));
  numbers = ((one-not-two, tt), (tt, tt));
  guards_fit = (
    no-guards-fit regions (cell_at (pos 5) (pos 0)) refl,
    (
      no-guards-fit regions (cell_at (pos 9) (pos 0)) refl,
      (no-guards-fit regions no_part refl, (no-guards-fit regions no_part refl, tt)),
    ),
  );
  cells_apart = (
    (five-not-nine, ((λ a h k. no-cell a no_part refl k), ((λ a h k. no-cell a no_part refl k), tt))),
    (
      ((λ a h k. no-cell a no_part refl k), ((λ a h k. no-cell a no_part refl k), tt)),
      (((λ a h k. no-cell a no_part refl k), tt), (tt, tt)),
    ),
  );
  cells_within = (
    alone-within (pos 5) (pos 0) two_cells five-in-two,
    (
      alone-within (pos 9) (pos 0) two_cells nine-in-two,
      (
        (λ a y e. absurd (no-cell a no_part refl (y, e))),
        ((λ a y e. absurd (no-cell a no_part refl (y, e))), tt),
      ),
    ),
  );
  guards_compose = λ n.
      (None, four-none _ _ _ _ (get-nothing n) (get-nothing n) (get-nothing n) (get-nothing n));
  interpreted = (
    down-at regions (pos 1) (pos 5) (omega arith) (get-alone (pos 5) (pos 0) (pos 5)),
    (down-at regions (pos 2) (pos 9) (omega arith) (get-alone (pos 9) (pos 0) (pos 9)), tt),
  );
}
  where
    regions : List Region
    regions = table (two_flags (pos 2))

-- ---- guards

no-region : IsRefused (configuration_with (pos 0)) (guarded (pos 7) 0 one)
no-region a =
    none-some
    (a.guards_fit.1.0 (pos 7) _ (get-alone (pos 7) (record { kind = 0; element = one }) (pos 7))).0.1

no-type : IsRefused (configuration_with (pos 0)) (guarded (pos 1) 1 one)
no-type a =
    let x = (a.guards_fit.1.0 (pos 1) _
    (get-alone (pos 1) (record { kind = 1; element = one }) (pos 1))).0 in
    let e : 0 ≡ 1 = ap (λ r. r.kind) (some-same (flag_in (pos 0)) x.0 x.1) ∙ x.2 in
    omega (arith, e)

no-algebra : IsRefused (configuration_with (pos 0)) (guarded (pos 1) 0 (src 0))
no-algebra a =
    (a.guards_fit.1.0 (pos 1) _
    (get-alone (pos 1) (record { kind = 0; element = src 0 }) (pos 1))).1.0

pub account-conditions : AccountConditions
account-conditions = record {
  all_have_parts = accepted.first;
  frame_without_a_part = λ a. a.frames.1;
  no_values = accepted.first;
  value_of_no_name = value-of-none;
  two_numbers = two-numbers;
  one_number_twice = λ a. a.numbers.0.0 refl;
  guard_that_fits = accepted.first;
  guard_of_no_region = no-region;
  guard_of_another_type = no-type;
  guard_of_another_algebra = no-algebra;
  value_that_is_there = accepted.second;
  another_value = λ a.
      apart 0 1 (λ e. omega (arith, e))
      (its-value (pos 5) (pos 0) (pos 1) (get-alone (pos 5) (pos 0) (pos 5))
      (a.cells_within.0 (pos 5) (pos 1) (get-alone (pos 5) (pos 1) (pos 5))));
  no_cell_there = λ a.
      none-some
      (sym (get-nothing (pos 5))
      ∙ a.cells_within.0 (pos 5) (pos 0) (get-alone (pos 5) (pos 0) (pos 5)));
  state_of_another_part = λ a. not-up (flag_in (pos 1) ∷ []) a.interpreted.0;
}
