-- The nodes of trees, each with its goal, in preorder.
use Rattle.std.specs.Prelude.{List, [], ◌∷◌, ◌++◌, Option, Some, None, unwrap_or}
use Rattle.cap_prog.specs.Program.{PlainProgram}
use Rattle.cap_goal_spec.specs.States.{PlainGoal}
use Rattle.cap_goal_spec.specs.Choices.{PlainChoice, PlainTree, node, PlainTrees, no_trees, tree}
use Rattle.cap_goal_spec.specs.Roots.{PlainUnit, roots, all_roots}
use Rattle.cap_rules.specs.Answers.{marks_of}
use Rattle.cap_rules.specs.Rules.{rule}

-- a node: its goal, and the choice that is taken there
pub record GoalNode : Type 0 where
  pub goal : PlainGoal
  pub choice : PlainChoice

-- what a choice leaves of a goal, which is nothing where it doesn't apply
unfoldable pub goals_left : PlainProgram → PlainGoal → PlainChoice → List PlainGoal
goals_left p g c = unwrap_or (rule p g c (marks_of c)).value []

-- the nodes of the tree of a goal, and of trees beside goals; a tree without a goal has none
abbrev mutual
  pub nodes_at : PlainProgram → PlainTree → PlainGoal → List GoalNode
  nodes_at p (node c ts) g =
      record { goal = g; choice = c } ∷ all_nodes_at p ts (goals_left p g c)

  pub all_nodes_at : PlainProgram → PlainTrees → List PlainGoal → List GoalNode
  all_nodes_at p no_trees gs = []
  all_nodes_at p (tree t ts) [] = []
  all_nodes_at p (tree t ts) (g ∷ gs) = nodes_at p t g ++ all_nodes_at p ts gs

abbrev pub root_nodes : PlainProgram → Option PlainTree → Option PlainGoal → List GoalNode
root_nodes p None g = []
root_nodes p (Some t) None = []
root_nodes p (Some t) (Some g) = nodes_at p t g

-- of the trees of roots, one after the other
abbrev pub all_root_nodes :
    PlainProgram → List (Option PlainTree) → List (Option PlainGoal) → List GoalNode
all_root_nodes p [] rs = []
all_root_nodes p (t ∷ ts) [] = []
all_root_nodes p (t ∷ ts) (r ∷ rs) = root_nodes p t r ++ all_root_nodes p ts rs

-- of the trees of a unit
unfoldable pub unit_nodes : PlainProgram → PlainUnit → List (Option PlainTree) → List GoalNode
unit_nodes p u ts = all_root_nodes p ts (roots p u)

-- of the trees of all units
unfoldable pub program_nodes : PlainProgram → List (Option PlainTree) → List GoalNode
program_nodes p ts = all_root_nodes p ts (all_roots p)
