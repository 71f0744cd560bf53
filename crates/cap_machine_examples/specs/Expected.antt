-- What is expected of the example: which accounts are valid and follow, and which don't.
use Rattle.std.specs.Prelude.{◌≢◌, ℤ, pos, [], ◌∷◌}
use Rattle.std.specs.FinMap.{insert, empty}
use Rattle.cap_machine.specs.declared.event.Event.{Event}
use Rattle.cap_machine.specs.declared.event.Event.TheVariants.{Set, Write, Faa}
use Rattle.cap_machine.specs.Machine.{Heap, Configuration}
use Rattle.cap_machine_accounts.specs.Parts.{Part, no_part}
use Rattle.cap_machine_accounts.specs.Assertions.{Met}
use Rattle.cap_machine_accounts.specs.Accounts.{Account, IsValidAccount}
use Rattle.cap_machine_accounts.specs.Following.{Follows}
use Rattle.cap_machine_examples.specs.Example.{flag_program, main_function, cell_at_5, configuration_with, flag_part, with_the_guard, account_with, flag_down, flag_up, cell_twice, flag_lost, guard_twice}

abbrev pub IsRefused : Configuration → Account → Type 0
IsRefused c a = ¬ IsValidAccount flag_program c a

-- the account doesn't follow, whatever is handed over
abbrev pub FollowsNot : Heap → Event → Account → Account → Type 0
FollowsNot heap event a b = (handed : Part) → ¬ Follows flag_program heap 0 event a b handed

-- the first thread raises the flag, the guard of which the second one has
abbrev pub flag_down_for_second : Account
flag_down_for_second = account_with (pos 0) (flag_part (pos 0)) no_part with_the_guard

abbrev pub flag_up_by_second : Account
flag_up_by_second = account_with (pos 1) (flag_part (pos 1)) no_part with_the_guard

-- a heap in which another cell stands, that nobody has
abbrev pub two_cells : Heap
two_cells = insert (cell_at_5 (pos 0)) (pos 9) (pos 0)

-- an account by which the first thread has this cell
abbrev pub with_stray_cell : Account
with_stray_cell =
    account_with (pos 0) (flag_part (pos 0))
    (record { cells = insert empty (pos 9) (pos 0); guards = empty }) no_part

abbrev pub nothing_held : Account
nothing_held = account_with (pos 0) (flag_part (pos 0)) no_part no_part

abbrev pub guard_invented : Account
guard_invented = account_with (pos 0) (flag_part (pos 0)) with_the_guard no_part

pub record BrokenAccounts : Type 0 where
  pub cell_in_two_parts : IsRefused (configuration_with (pos 0)) cell_twice
  pub state_without_a_case : IsRefused (configuration_with (pos 2)) flag_lost
  pub guards_that_do_not_compose : IsRefused (configuration_with (pos 0)) guard_twice

pub record BrokenSteps : Type 0 where
  pub by_no_action : FollowsNot (cell_at_5 (pos 1)) (Write (pos 5) (pos 0)) flag_up flag_down
  pub by_a_guard_of_another : FollowsNot (cell_at_5 (pos 0))
      (Write (pos 5) (pos 1)) flag_down_for_second flag_up_by_second
  pub at_no_access : FollowsNot (cell_at_5 (pos 0)) (Set (pos 0)) flag_down flag_up
  pub cell_from_nowhere : FollowsNot two_cells (Set (pos 0)) nothing_held with_stray_cell
  pub guard_from_nowhere : FollowsNot (cell_at_5 (pos 0)) (Set (pos 0)) nothing_held guard_invented

-- at most two regions are opened at a step
abbrev pub ThirdRegion : Type 0
ThirdRegion =
    (heap : Heap) (event : Event) (a b : Account) (handed : Part) (x y z : ℤ)
    → (f : Follows flag_program heap 0 event a b handed)
    → f.opened ≢ x ∷ y ∷ z ∷ []

-- main promises a cell, which no part without cells has
abbrev pub NothingHandedOver : Type 0
NothingHandedOver = ¬ Met flag_program [] no_part main_function (pos 5 ∷ []) [] (pos 0)

-- the first account is valid, and where the first thread raises the flag by its guard, the second
-- one is and follows, also where the flag is raised by adding 1
pub record AcceptedStep : Type 0 where
  pub first : IsValidAccount flag_program (configuration_with (pos 0)) flag_down
  pub second : IsValidAccount flag_program (configuration_with (pos 1)) flag_up
  pub follows : Follows flag_program (cell_at_5 (pos 0)) 0
      (Write (pos 5) (pos 1)) flag_down flag_up no_part
  pub follows_by_a_sum : Follows flag_program (cell_at_5 (pos 0)) 0
      (Faa (pos 5) (pos 0)) flag_down flag_up no_part
