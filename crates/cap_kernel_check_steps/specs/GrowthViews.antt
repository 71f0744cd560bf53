-- What contracts see of trees that grow from choices in preorder. Where one can't grow, that is so
-- whatever is owed behind it.
use Rattle.std.specs.Prelude.{◌≡◌, suc, ℕ, List, [], ◌∷◌, ◌++◌, map, length, Option, Result, Ok, Err}
use Rattle.std.specs.List.{AllZip}
use Rattle.std.specs.Global.{Vec}
use Rattle.cap_prog.specs.Program.{PlainProgram}
use Rattle.cap_goal_spec.specs.States.{PlainGoal}
use Rattle.cap_goal_spec.specs.Choices.{PlainChoice}
use Rattle.cap_rules.specs.Answers.{Subgoals}
use Rattle.cap_rules.specs.Valid.{Derives, AllDerive}
use Rattle.cap_goal.specs.declared.choice.Bundle.{Bundle}
use Rattle.cap_goal.specs.declared.choice.Node.{Node}
use Rattle.cap_goal.specs.Trees.{node_view, nodes_view, bundle_view}
use Rattle.cap_goal.specs.Views.{choice_view}
use Rattle.cap_kernel_check_steps.specs.declared.error.CheckError.{CheckError}
use Rattle.cap_kernel_check_steps.specs.declared.preorder.Preorder.{Preorder}
use Rattle.cap_kernel_check_steps.specs.Starts.{PlainStart, StartDerives}
use Rattle.cap_kernel_check_steps.specs.Owed.{PlainDebt, owes, debts_of, choices_of, all_choices_of, preorder}
use Rattle.cap_kernel_check_steps.specs.Growths.{PlainPreorder, PassesOver, Halts}
use Rattle.cap_kernel_check_steps.specs.Views.{tree_view}

abbrev pub preorder_view : Preorder → PlainPreorder
preorder_view w = record { passed = w.passed; rest = map choice_view w.rest.now }

-- a tree of a goal that has so many nodes above it, with the choices that it passes over
abbrev pub Grows :
    PlainProgram → ℕ → PlainGoal → PlainPreorder → Result Node CheckError → PlainPreorder → Type 0
Grows p n g old (Ok t) new =
    Derives p (suc n) (node_view t) g × PassesOver old (choices_of (node_view t)) new
Grows p n g old (Err e) new = (ds : List PlainDebt) → Halts p (owes n g ∷ ds) old e

abbrev pub GrowsAll :
    PlainProgram → ℕ → List PlainGoal → PlainPreorder → Result (Vec Node) CheckError →
    PlainPreorder → Type 0
GrowsAll p n gs old (Ok ts) new =
    AllDerive (Subgoals p) (suc n) (nodes_view ts.items) gs
    × PassesOver old (all_choices_of (nodes_view ts.items)) new
GrowsAll p n gs old (Err e) new = (ds : List PlainDebt) → Halts p (map (owes n) gs ++ ds) old e

abbrev pub GrowsAtRoot :
    PlainProgram → PlainStart → PlainPreorder → Result (Option Node) CheckError →
    PlainPreorder → Type 0
GrowsAtRoot p s old (Ok t) new =
    StartDerives p (tree_view t) s × PassesOver old (preorder (tree_view t ∷ [])) new
GrowsAtRoot p s old (Err e) new =
    (ds : List PlainDebt) → Halts p (debts_of (s ∷ []) ++ ds) old e

abbrev pub GrowsAtRoots :
    PlainProgram → List PlainStart → PlainPreorder → Result (Vec (Option Node)) CheckError →
    PlainPreorder → Type 0
GrowsAtRoots p ss old (Ok ts) new =
    AllZip (StartDerives p) (map tree_view ts.items) ss
    × PassesOver old (preorder (map tree_view ts.items)) new
GrowsAtRoots p ss old (Err e) new = (ds : List PlainDebt) → Halts p (debts_of ss ++ ds) old e

-- trees of all roots, which have all of these choices
abbrev pub Shapes :
    PlainProgram → List PlainStart → List PlainChoice → Result Bundle CheckError → Type 0
Shapes p ss cs (Ok b) =
    AllZip (StartDerives p) (bundle_view b) ss × (preorder (bundle_view b) ≡ cs)
Shapes p ss cs (Err e) = Halts p (debts_of ss) (record { passed = 0; rest = cs }) e
