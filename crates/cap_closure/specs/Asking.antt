-- What is asked of the actions of others, where some rows are known of a fact's later state.
use Rattle.std.specs.Prelude.{◌≡◌, ℕ, Bool, true, false, List, slice_get, Option, Some, None, Result}
use Rattle.cap_lin.specs.Linear.{Linear}
use Rattle.cap_lin.specs.declared.row.Row.{Row}
use Rattle.cap_prog.specs.Program.{PlainAction, PlainRegionType}
use Rattle.cap_goal_spec.specs.States.{PlainFact, PlainState}
use Rattle.cap_rules.specs.Resting.{system, action_names}
use Rattle.cap_rules_steps.specs.Walks.{Makes, seen}
use Rattle.cap_rules_steps.specs.declared.error.RuleError.{RuleError}
use Rattle.cap_closure.specs.declared.asking.Asked.{Asked}

-- the terms of an action's names, and its system, or why there is none
pub record PlainAsked : Type 0 where
  pub names : List Linear
  pub rows : Result (Option (List Row)) RuleError

abbrev pub rows_if : Bool → List Row → Option (List Row)
rows_if true rows = Some rows
rows_if false rows = None

abbrev pub asked_view : Asked → PlainAsked
asked_view x =
    record { names = x.names.items; rows = seen (λ b. rows_if b x.rows.items) x.others }

-- this is what is asked of the action
abbrev pub IsAsked :
    PlainRegionType → PlainState → PlainFact → List Row → PlainAction → PlainAsked → Type 0
IsAsked k s f known a x =
    (x.names ≡ action_names k s f a) × Makes x.rows (system k s f known a x.names)

-- and these of the region's first actions
abbrev pub AreAsked :
    PlainRegionType → PlainState → PlainFact → List Row → List Asked → Type 0
AreAsked k s f known xs =
    (i : ℕ) (x : Asked) (a : PlainAction) → slice_get xs i ≡ Some x →
    slice_get k.actions i ≡ Some a → IsAsked k s f known a (asked_view x)
