-- Each condition of what an assertion takes out of a part.
use Rattle.std.specs.Prelude.{ℕ, ℤ, pos, negsuc, List, [], ◌∷◌, Option, Some, None}
use Rattle.cap_lin.specs.Linear.{number}
use Rattle.cap_galg_indices.specs.Sets.{all_indices, one_index, indices_from}
use Rattle.cap_galg.specs.Elements.{Element, nothing, one, src, indices}
use Rattle.cap_galg.specs.Algebras.{PlainAlgebra, unique, counting, indexed}
use Rattle.cap_prog.specs.declared.assertion.Slot.TheVariants.{Any, Is}
use Rattle.cap_prog.specs.declared.assertion.Asked.{Asked}
use Rattle.cap_prog.specs.declared.assertion.Asked.TheVariants.{One, Src, At, From}
use Rattle.cap_machine_accounts.specs.Parts.{Guard, Region}
use Rattle.cap_machine_accounts.specs.Assertions.{TakesGuard, IsStated, IsOwned}
use Rattle.cap_machine_examples.specs.Example.{the_guard, flag_in, flag_values}
use Rattle.cap_machine_examples.specs.Validity.{cell_at}
use Rattle.cap_machine_examples.specs.Latch.{latch_program}

-- a part with the cell `a |-> z` has the cell `at |-> held`
abbrev pub Owns : ℤ → ℤ → ℤ → ℤ → Type 0
Owns a z at held =
    IsOwned flag_values (number at) (Is (number held)) (cell_at a z)

-- the flag that is down is a region of this table, of this type, with this argument and this state
abbrev pub States : List Region → ℕ → ℤ → ℤ → Type 0
States table k arg state =
    IsStated table flag_values 0 k (Is (number arg) ∷ []) (Is (number state))

abbrev pub Leaves : PlainAlgebra → Asked → Option Guard → Option Guard → Type 0
Leaves algebra asked held rest =
    TakesGuard (latch_program algebra asked []) flag_values 0 0 asked held rest

abbrev pub guard_with : Element → Option Guard
guard_with x = Some (record { kind = 0; element = x })

-- what is asked of an indexed guard is taken out of these indices, and leaves a guard
abbrev pub LeavesOf : Asked → List ℕ → Option Guard → Type 0
LeavesOf asked held rest = Leaves indexed asked (guard_with (indices held)) rest

abbrev pub at_number : ℤ → Asked
at_number z = At (Is (number z))

abbrev pub from_number : ℤ → Asked
from_number z = From (Is (number z))

pub record HoldingConditions : Type 0 where
  pub owned : Owns (pos 5) (pos 0) (pos 5) (pos 0)
  pub at_no_positive_address : ¬ Owns (pos 0) (pos 0) (pos 0) (pos 0)
  pub no_such_cell : ¬ Owns (pos 9) (pos 0) (pos 5) (pos 0)
  pub another_content : ¬ Owns (pos 5) (pos 0) (pos 5) (pos 1)
  pub stated : States (flag_in (pos 0) ∷ []) 0 (pos 5) (pos 0)
  pub no_such_region : ¬ States [] 0 (pos 5) (pos 0)
  pub another_type : ¬ States (flag_in (pos 0) ∷ []) 1 (pos 5) (pos 0)
  pub another_argument : ¬ States (flag_in (pos 0) ∷ []) 0 (pos 9) (pos 0)
  pub another_state : ¬ States (flag_in (pos 0) ∷ []) 0 (pos 5) (pos 1)
  pub taken : Leaves unique One (guard_with one) None
  pub nothing_to_take : ¬ Leaves unique One None None
  pub left_over : ¬ Leaves unique One (guard_with one) (guard_with one)
  pub no_proper_rest : ¬ Leaves unique One (guard_with one) (guard_with nothing)
  pub source_taken : Leaves counting (Src Any) (guard_with (src 0)) None
  pub another_algebra : ¬ Leaves unique (Src Any) (guard_with (src 0)) None
  -- indices
  pub index_taken :
      LeavesOf (at_number (pos 0)) all_indices (guard_with (indices (indices_from 1)))
  pub inner_index_taken :
      LeavesOf (at_number (pos 2)) all_indices (guard_with (indices (0 ∷ 2 ∷ 3 ∷ [])))
  pub only_index_taken : LeavesOf (at_number (pos 3)) (one_index 3) None
  pub some_index_taken :
      LeavesOf (At Any) all_indices (guard_with (indices (indices_from 1)))
  pub all_from_an_index_taken :
      LeavesOf (from_number (pos 1)) all_indices (guard_with (indices (one_index 0)))
  pub index_that_is_not_held :
      (rest : Option Guard) → ¬ LeavesOf (at_number (pos 4)) (one_index 3) rest
  pub index_below_0 : (rest : Option Guard) → ¬ LeavesOf (at_number (negsuc 0)) all_indices rest
  pub index_kept : ¬ LeavesOf (at_number (pos 0)) all_indices (guard_with (indices all_indices))
  pub all_from_an_index_that_is_not_held :
      (rest : Option Guard) → ¬ LeavesOf (from_number (pos 0)) (indices_from 1) rest
  pub indices_of_another_algebra :
      ¬ Leaves counting (at_number (pos 3)) (guard_with (indices (one_index 3))) None
