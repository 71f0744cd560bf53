-- What contracts see of what is owed.
use Rattle.std.specs.Prelude.{◌≡◌, suc, List, map, reverse, option_map, Option, Some, None}
use Rattle.std.specs.List.{AllByRecursion}
use Rattle.std.specs.Global.{Vec}
use Rattle.cap_prog.specs.Program.{PlainProgram}
use Rattle.cap_goal_spec.specs.States.{PlainGoal}
use Rattle.cap_goal_spec.specs.Choices.{PlainChoice}
use Rattle.cap_goal_spec.specs.Fits.{HasRoom}
use Rattle.cap_goal.specs.Views.{goal_view}
use Rattle.cap_rules_fits.specs.Kept.{RootIsKept}
use Rattle.cap_kernel_check_steps.specs.declared.debt.Debt.{Debt}
use Rattle.cap_kernel_check_steps.specs.Owed.{PlainDebt, owes, Pays}

abbrev pub debt_view : Debt → PlainDebt
debt_view d = record { above = d.above; goal = option_map goal_view d.goal }

-- the last is owed first
abbrev pub owed_view : List Debt → List PlainDebt
owed_view ds = reverse (map debt_view ds)

abbrev pub left_view : Option (Vec Debt) → Option (List PlainDebt)
left_view o = option_map (λ v. owed_view v.items) o

abbrev pub DebtIsKept : PlainProgram → PlainDebt → Type 0
DebtIsKept p d = RootIsKept p d.goal

abbrev pub DebtsAreKept : PlainProgram → List PlainDebt → Type 0
DebtsAreKept p ds = AllByRecursion (DebtIsKept p) ds

abbrev pub GoalHasRoom : Option PlainGoal → Type 0
GoalHasRoom None = Unit {0}
GoalHasRoom (Some g) = HasRoom g.state

-- what the choice leaves is owed, one node deeper, or it never applies
abbrev pub LeavesOwed :
    PlainProgram → PlainDebt → PlainChoice → Option (List PlainDebt) → Type 0
LeavesOwed p d c None = (gs : List PlainGoal) → ¬ Pays p d c gs
LeavesOwed p d c (Some ds) =
    (gs : List PlainGoal) × Pays p d c gs × (ds ≡ map (owes (suc d.above)) gs)

-- what is left is kept
abbrev pub LeftIsKept : PlainProgram → Option (List PlainDebt) → Type 0
LeftIsKept p None = Unit {0}
LeftIsKept p (Some ds) = DebtsAreKept p ds
