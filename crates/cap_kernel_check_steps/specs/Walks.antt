-- A walk over trees in preorder beside the goals that are owed.
use Rattle.std.specs.Prelude.{◌≡◌, ℕ, zero, suc, Bool, true, false, List, [], ◌∷◌, Option, Some, None}
use Rattle.cap_prog.specs.Program.{PlainProgram}
use Rattle.cap_goal_spec.specs.States.{PlainGoal}
use Rattle.cap_goal_spec.specs.Choices.{PlainChoice, PlainTree, node, PlainTrees, no_trees, tree}
use Rattle.cap_rules.specs.Answers.{Subgoals}
use Rattle.cap_rules.specs.Valid.{deepest}
use Rattle.cap_kernel_check_steps.specs.Starts.{PlainStart, no_tasks, at_goal, barred}
use Rattle.cap_kernel_check_steps.specs.Faults.{NeverApplies}

-- how many nodes were passed, and whether one is missing behind them
pub record PlainWalk : Type 0 where
  pub before : ℕ
  pub lacks : Bool

-- the walk goes on, or it ends at a node that fails, or at a number where the shape is wrong
pub data Outcome : Type 0 where
  goes_on : PlainWalk → Outcome
  at_node : ℕ → Outcome
  at_shape : ℕ → Outcome

abbrev pub passed : ℕ → PlainWalk
passed n = record { before = n; lacks = false }

abbrev pub lacking : PlainWalk → PlainWalk
lacking w = record { before = w.before; lacks = true }

-- the next node
abbrev pub next_of : PlainWalk → ℕ
next_of w = suc w.before

-- what the choice leaves, if it applies
abbrev pub Leaves : PlainProgram → PlainGoal → PlainChoice → Option (List PlainGoal) → Type 0
Leaves p g c (Some gs) = Subgoals p g c gs
Leaves p g c None = NeverApplies p g c

-- after an outcome, as long as the walk goes on
abbrev pub After : Outcome → (PlainWalk → Outcome → Type 0) → Outcome → Type 0
After (goes_on w) Next o = Next w o
After (at_node k) Next o = o ≡ at_node k
After (at_shape k) Next o = o ≡ at_shape k

-- the next node is passed, unless one is missing before it
abbrev pub unless_lacking : Bool → Outcome → ℕ → Outcome
unless_lacking false o k = o
unless_lacking true o k = at_shape k

-- its choice applies
abbrev pub entered : PlainWalk → Outcome
entered w = unless_lacking w.lacks (goes_on (passed (next_of w))) (next_of w)

-- the next node has no goal
abbrev pub surplus : ℕ → PlainWalk → Outcome
surplus zero w = at_node (next_of w)
surplus (suc room) w = at_shape (next_of w)

-- the next node's choice leaves goals, with which the walk goes on, or it doesn't apply
abbrev pub AfterLeft :
    PlainWalk → Option (List PlainGoal) → (PlainWalk → List PlainGoal → Outcome → Type 0) →
    Outcome → Type 0
AfterLeft w None Next o = o ≡ at_node (next_of w)
AfterLeft w (Some gs) Next o = After (entered w) (λ v. Next v gs) o

-- below a goal there is room for so many levels
abbrev mutual
  pub Visits : PlainProgram → PlainWalk → ℕ → PlainTree → PlainGoal → Outcome → Type 0
  Visits p w zero (node c ts) g o = o ≡ at_node (next_of w)
  Visits p w (suc room) (node c ts) g o =
      (left : Option (List PlainGoal)) × Leaves p g c left
      × AfterLeft w left (λ v gs end. VisitsAll p v room ts gs end) o

  pub VisitsAll : PlainProgram → PlainWalk → ℕ → PlainTrees → List PlainGoal → Outcome → Type 0
  VisitsAll p w room no_trees [] o = o ≡ goes_on w
  VisitsAll p w room no_trees (g ∷ gs) o = o ≡ goes_on (lacking w)
  VisitsAll p w room (tree t ts) [] o = o ≡ surplus room w
  VisitsAll p w room (tree t ts) (g ∷ gs) o =
      (m : Outcome) × Visits p w room t g m × After m (λ v end. VisitsAll p v room ts gs end) o

-- at a root at which no choice applies the walk ends
abbrev pub unrooted_at : PlainWalk → Outcome
unrooted_at w = unless_lacking w.lacks (at_node (next_of w)) (next_of w)

abbrev pub VisitsStart :
    PlainProgram → PlainWalk → Option PlainTree → PlainStart → Outcome → Type 0
VisitsStart p w o barred end = end ≡ unrooted_at w
VisitsStart p w None no_tasks end = end ≡ goes_on w
VisitsStart p w (Some t) no_tasks end = end ≡ at_shape (next_of w)
VisitsStart p w None (at_goal g) end = end ≡ goes_on (lacking w)
VisitsStart p w (Some t) (at_goal g) end = Visits p w deepest t g end

abbrev pub VisitsStarts :
    PlainProgram → PlainWalk → List (Option PlainTree) → List PlainStart → Outcome → Type 0
VisitsStarts p w [] ss end = end ≡ goes_on w
VisitsStarts p w (o ∷ ts) [] end = end ≡ goes_on w
VisitsStarts p w (o ∷ ts) (s ∷ ss) end =
    (m : Outcome) × VisitsStart p w o s m × After m (λ v. VisitsStarts p v ts ss) end

-- at the end a node that is missing tells the shape
abbrev pub ended : PlainWalk → Outcome
ended w = unless_lacking w.lacks (goes_on w) (next_of w)

-- where a walk over all trees ends
abbrev pub IsEnd :
    PlainProgram → List (Option PlainTree) → List PlainStart → Outcome → Type 0
IsEnd p ts ss o =
    (m : Outcome) × VisitsStarts p (passed 0) ts ss m × After m (λ w end. end ≡ ended w) o
