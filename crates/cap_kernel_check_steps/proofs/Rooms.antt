-- Goals that are kept have room.
use Rattle.std.proofs.Common.{◌≡◌, List, ◌∷◌, ◌++◌, drop, Option, Some, None, sym, subst}
use Rattle.std.proofs.Math.Logic.{∥∥₁_prop, ∥∥₁_map, ∥∥₁_elim}
use Rattle.std.proofs.Props.{props}
use Rattle.cap_prog.specs.Program.{PlainProgram}
use Rattle.cap_goal_spec.specs.States.{PlainGoal}
use Rattle.cap_rules_fits.specs.Kept.{RootIsKept}
use Rattle.cap_kernel_check_steps.specs.Owed.{PlainDebt}
use Rattle.cap_kernel_check_steps.specs.Debts.{DebtsAreKept, GoalHasRoom}
use Rattle.cap_kernel_check_steps.proofs.Stacks.{kept-join, kept-behind}

room-prop : (o : Option PlainGoal) → IsProp (GoalHasRoom o)
room-prop None = Prim.hlevel props
room-prop (Some g) = Prim.hlevel props

kept-room : (p : PlainProgram) (o : Option PlainGoal) → RootIsKept p o → GoalHasRoom o
kept-room p None h = tt
kept-room p (Some g) h = h.fits.state.room

pub first-has-room : (p : PlainProgram) (d : PlainDebt) (ds owed : List PlainDebt) → owed ≡ d ∷ ds → ∥ DebtsAreKept p owed ∥₁ → GoalHasRoom d.goal
first-has-room p d ds owed e k =
    ∥∥₁_elim k (room-prop d.goal) (λ h. let t : DebtsAreKept p (d ∷ ds) = subst (DebtsAreKept p) e h in kept-room p d.goal t.0)

pub kept-paid : (p : PlainProgram) (left old new : List PlainDebt) → new ≡ left ++ drop 1 old → ∥ DebtsAreKept p left ∥₁ → ∥ DebtsAreKept p old ∥₁ → ∥ DebtsAreKept p new ∥₁
kept-paid p left old new e a b =
    ∥∥₁_elim a ∥∥₁_prop (λ x. ∥∥₁_map b (λ y. subst (DebtsAreKept p) (sym e) (kept-join p left (drop 1 old) x (kept-behind p old y))))
