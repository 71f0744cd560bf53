-- Each condition of a valid account: one that is refused for it alone, beside one that is accepted
-- and differs in just this.
use Rattle.std.specs.Prelude.{ℕ, ℤ, pos, List, [], ◌∷◌}
use Rattle.std.specs.FinMap.{insert, empty}
use Rattle.cap_galg.specs.Elements.{Element, one, src}
use Rattle.cap_machine.specs.Machine.{Configuration}
use Rattle.cap_machine_accounts.specs.Parts.{Guard, Part, no_part, Region}
use Rattle.cap_machine_accounts.specs.Assertions.{NameValue, a_number}
use Rattle.cap_machine_accounts.specs.Accounts.{OwnedRegion, Account, IsValidAccount}
use Rattle.cap_machine_examples.specs.Example.{flag_program, main_frame, cell_at_5, configuration_with, flag_part, with_the_guard, flag_in, has, account_with, flag_down, flag_up}
use Rattle.cap_machine_examples.specs.Expected.{IsRefused, two_cells}

-- the second thread's frame has no part
abbrev pub frame_left_out : Account
frame_left_out = record { regions = flag_down.regions; threads = has with_the_guard ∷ [] }

-- main has no fixed names, and the first thread's frame has these values of them
abbrev pub with_values : List NameValue → Account
with_values fixed = record {
  regions = flag_down.regions;
  threads = (record { part = with_the_guard; fixed = fixed } ∷ []) ∷ has no_part ∷ [];
}

-- two flags, over the cells 5 and 9; the second has this number
abbrev pub cell_at : ℤ → ℤ → Part
cell_at a z = record { cells = insert empty a z; guards = empty }

abbrev pub second_flag : ℤ → OwnedRegion
second_flag n = record {
  region = record { number = n; kind = 0; args = pos 9 ∷ []; state = pos 0 };
  part = cell_at (pos 9) (pos 0);
}

abbrev pub two_flags : ℤ → Account
two_flags n = record {
  regions = record { region = flag_in (pos 0); part = flag_part (pos 0) } ∷ second_flag n ∷ [];
  threads = has no_part ∷ has no_part ∷ [];
}

abbrev pub with_two_cells : Configuration
with_two_cells =
    record { heap = two_cells; threads = (main_frame ∷ []) ∷ (main_frame ∷ []) ∷ [] }

-- the first thread has a guard of the region of this number, of this type, with this element
abbrev pub guarded : ℤ → ℕ → Element → Account
guarded n k x =
    account_with (pos 0) (flag_part (pos 0))
    (record { cells = empty; guards = insert empty n (record { kind = k; element = x }) }) no_part

-- no cells
abbrev pub nothing_there : Configuration
nothing_there =
    record { heap = empty; threads = (main_frame ∷ []) ∷ (main_frame ∷ []) ∷ [] }

pub record AccountConditions : Type 0 where
  -- frames
  pub all_have_parts : IsValidAccount flag_program (configuration_with (pos 0)) flag_down
  pub frame_without_a_part : IsRefused (configuration_with (pos 0)) frame_left_out
  pub no_values : IsValidAccount flag_program (configuration_with (pos 0)) (with_values [])
  pub value_of_no_name :
      IsRefused (configuration_with (pos 0)) (with_values (a_number (pos 0) ∷ []))
  -- numbers
  pub two_numbers : IsValidAccount flag_program with_two_cells (two_flags (pos 2))
  pub one_number_twice : IsRefused with_two_cells (two_flags (pos 1))
  -- guards_fit
  pub guard_that_fits :
      IsValidAccount flag_program (configuration_with (pos 0)) (guarded (pos 1) 0 one)
  pub guard_of_no_region : IsRefused (configuration_with (pos 0)) (guarded (pos 7) 0 one)
  pub guard_of_another_type : IsRefused (configuration_with (pos 0)) (guarded (pos 1) 1 one)
  pub guard_of_another_algebra : IsRefused (configuration_with (pos 0)) (guarded (pos 1) 0 (src 0))
  -- cells_within
  pub value_that_is_there : IsValidAccount flag_program (configuration_with (pos 1)) flag_up
  pub another_value : IsRefused (configuration_with (pos 0)) flag_up
  pub no_cell_there : IsRefused nothing_there flag_down
  -- interpreted
  pub state_of_another_part :
      IsRefused (configuration_with (pos 0))
      (account_with (pos 1) (flag_part (pos 0)) with_the_guard no_part)
