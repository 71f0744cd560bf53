-- Each condition of a region that is interpreted, of an action, and of an old region after a step.
use Rattle.std.specs.Prelude.{ℕ, ℤ, pos, List, [], ◌∷◌, Option, Some, None}
use Rattle.cap_lin.specs.Linear.{number}
use Rattle.cap_lin.specs.declared.row.Op.{Op}
use Rattle.cap_lin.specs.declared.row.Op.TheVariants.{Eq, Ne}
use Rattle.cap_galg_indices.specs.Sets.{one_index}
use Rattle.cap_galg.specs.Fractions.{fraction}
use Rattle.cap_galg.specs.Elements.{one, share, indices}
use Rattle.cap_galg.specs.Algebras.{unique, divisible, indexed}
use Rattle.cap_prog.specs.declared.assertion.Slot.TheVariants.{Is}
use Rattle.cap_prog.specs.declared.assertion.Asked.TheVariants.{One, Share, At}
use Rattle.cap_machine_accounts.specs.Parts.{Guard, Part, no_part, Region}
use Rattle.cap_machine_accounts.specs.Assertions.{IsInterpreted, Acts}
use Rattle.cap_machine_accounts.specs.Accounts.{OwnedRegion}
use Rattle.cap_machine_accounts.specs.Following.{FollowsRegion}
use Rattle.cap_machine_examples.specs.Example.{flag_program, flag_part}
use Rattle.cap_machine_examples.specs.Latch.{with_five, latch_program, latch_in}
use Rattle.cap_machine_examples.specs.Holding.{guard_with}

-- a region of this type, with these arguments and this state
abbrev pub region_of : ℤ → ℕ → List ℤ → ℤ → Region
region_of n k args state = record { number = n; kind = k; args = args; state = state }

-- a flag that is down is interpreted over its cell
abbrev pub Interprets : ℕ → List ℤ → ℤ → Type 0
Interprets k args state =
    IsInterpreted flag_program [] (region_of (pos 1) k args state) (flag_part (pos 0))

-- a latch under a condition
abbrev pub InterpretsWhere : Op → Type 0
InterpretsWhere op =
    IsInterpreted (latch_program unique One (with_five op ∷ [])) []
    (latch_in (pos 5) (pos 0)) no_part

pub record InterpretationConditions : Type 0 where
  pub interpreted : Interprets 0 (pos 5 ∷ []) (pos 0)
  pub no_such_type : ¬ Interprets 1 (pos 5 ∷ []) (pos 0)
  pub too_many_arguments : ¬ Interprets 0 (pos 5 ∷ pos 9 ∷ []) (pos 0)
  pub another_argument : ¬ Interprets 0 (pos 9 ∷ []) (pos 0)
  pub another_state : ¬ Interprets 0 (pos 5 ∷ []) (pos 1)
  pub no_such_state : ¬ Interprets 0 (pos 5 ∷ []) (pos 2)
  pub where_the_condition_holds : InterpretsWhere Eq
  pub false_condition : ¬ InterpretsWhere Ne

-- a latch takes its action, which leads from 0 to its argument
abbrev pub ActsWhere : Op → ℕ → ℤ → ℤ → Option Guard → ℤ → Type 0
ActsWhere op k arg state held new =
    Acts (latch_program unique One (with_five op ∷ [])) (region_of (pos 1) k (arg ∷ []) state) held
    new

-- the action asks for a share
abbrev pub ActsByShare : ℤ → Type 0
ActsByShare z =
    Acts (latch_program divisible (Share (Is (number z))) []) (latch_in (pos 5) (pos 0))
    (guard_with (share (fraction 1 1))) (pos 5)

-- the action asks for the index 3, and these indices are held
abbrev pub ActsByIndex : List ℕ → Type 0
ActsByIndex held =
    Acts (latch_program indexed (At (Is (number (pos 3)))) []) (latch_in (pos 5) (pos 0))
    (guard_with (indices held)) (pos 5)

pub record ActionConditions : Type 0 where
  pub acts : ActsWhere Eq 0 (pos 5) (pos 0) (guard_with one) (pos 5)
  pub no_such_type : ¬ ActsWhere Eq 1 (pos 5) (pos 0) (guard_with one) (pos 5)
  pub another_argument : ¬ ActsWhere Eq 0 (pos 6) (pos 0) (guard_with one) (pos 5)
  pub another_source : ¬ ActsWhere Eq 0 (pos 5) (pos 1) (guard_with one) (pos 5)
  pub another_target : ¬ ActsWhere Eq 0 (pos 5) (pos 0) (guard_with one) (pos 6)
  pub false_condition : ¬ ActsWhere Ne 0 (pos 5) (pos 0) (guard_with one) (pos 5)
  pub without_its_guard : ¬ ActsWhere Eq 0 (pos 5) (pos 0) None (pos 5)
  pub by_the_whole_share : ActsByShare (pos 1)
  pub by_a_share_of_nothing : ¬ ActsByShare (pos 0)
  pub by_its_index : ActsByIndex (one_index 3)
  pub by_another_index : ¬ ActsByIndex (one_index 4)

-- a flag that is down, of this number, type and argument, with this part
abbrev pub down : ℤ → ℕ → ℤ → Part → OwnedRegion
down n k arg q = record { region = region_of n k (arg ∷ []) (pos 0); part = q }

-- it is there after a step that opens these regions
abbrev pub Remains : List ℤ → OwnedRegion → Type 0
Remains opened r =
    FollowsRegion flag_program no_part opened (down (pos 1) 0 (pos 5) (flag_part (pos 0))) r

pub record RegionConditions : Type 0 where
  pub remains : Remains [] (down (pos 1) 0 (pos 5) (flag_part (pos 0)))
  pub another_number : ¬ Remains [] (down (pos 2) 0 (pos 5) (flag_part (pos 0)))
  pub another_type : ¬ Remains [] (down (pos 1) 1 (pos 5) (flag_part (pos 0)))
  pub another_argument : ¬ Remains [] (down (pos 1) 0 (pos 9) (flag_part (pos 0)))
  pub opened_with_another_part : Remains (pos 1 ∷ []) (down (pos 1) 0 (pos 5) no_part)
  pub another_part : ¬ Remains [] (down (pos 1) 0 (pos 5) no_part)
