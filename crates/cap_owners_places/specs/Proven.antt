-- Trees at whose nodes no error but want of memory can come.
use Rattle.std.specs.Prelude.{List, [], ◌∷◌, Option, Some, None}
use Rattle.cap_prog.specs.Program.{PlainProgram}
use Rattle.cap_goal_spec.specs.States.{PlainGoal}
use Rattle.cap_goal_spec.specs.Choices.{PlainTree, node, PlainTrees, no_trees, tree}
use Rattle.cap_kernel_nodes.specs.Laws.{NodeIsProven}
use Rattle.cap_rules_nodes.specs.Nodes.{goals_left}

-- at each node of the tree of a goal the goal fits the program, and the choice proves what its rule
-- owes
abbrev mutual
  pub IsProven : PlainProgram → PlainTree → PlainGoal → Type 0
  IsProven p (node c ts) g =
      NodeIsProven p (record { goal = g; choice = c }) × AllAreProven p ts (goals_left p g c)

  -- of trees beside goals
  pub AllAreProven : PlainProgram → PlainTrees → List PlainGoal → Type 0
  AllAreProven p no_trees gs = Unit {0}
  AllAreProven p (tree t ts) [] = Unit {0}
  AllAreProven p (tree t ts) (g ∷ gs) = IsProven p t g × AllAreProven p ts gs

-- of trees beside roots
abbrev pub RootIsProven : PlainProgram → Option PlainTree → Option PlainGoal → Type 0
RootIsProven p None g = Unit {0}
RootIsProven p (Some t) None = Unit {0}
RootIsProven p (Some t) (Some g) = IsProven p t g

abbrev pub RootsAreProven :
    PlainProgram → List (Option PlainTree) → List (Option PlainGoal) → Type 0
RootsAreProven p [] gs = Unit {0}
RootsAreProven p (t ∷ ts) [] = Unit {0}
RootsAreProven p (t ∷ ts) (g ∷ gs) = RootIsProven p t g × RootsAreProven p ts gs
