-- Valid derivations: a tree for each root, in which each node's choice applies and its children are
-- trees of its subgoals.
use Rattle.std.specs.Prelude.{◌≡◌, ℕ, suc, ◌≤◌, List, [], ◌∷◌, Option, Some, None}
use Rattle.std.specs.List.{AllZip}
use Rattle.cap_goal_spec.specs.cap_lin.Steps.{first_wide}
use Rattle.cap_goal_spec.specs.cap_prog.Program.{PlainProgram}
use Rattle.cap_goal_spec.specs.States.{PlainGoal}
use Rattle.cap_goal_spec.specs.Choices.{PlainChoice, PlainTree, node, PlainTrees, no_trees, tree}
use Rattle.cap_goal_spec.specs.Roots.{all_roots, all_roots_steps}
use Rattle.cap_rules.specs.Answers.{Subgoals}

-- a node may stand so deep; the root of a tree is at depth 1
abbrev pub deepest : ℕ
deepest = 1000

-- a tree by what relates goals, choices and subgoals
abbrev mutual
  pub DerivesBy :
      (PlainGoal → PlainChoice → List PlainGoal → Type 0) → ℕ → PlainTree → PlainGoal → Type 0
  DerivesBy R depth (node c trees) g =
      (depth ≤ deepest) × (gs : List PlainGoal) × R g c gs × AllDerive R (suc depth) trees gs

  pub AllDerive :
      (PlainGoal → PlainChoice → List PlainGoal → Type 0) → ℕ → PlainTrees → List PlainGoal → Type 0
  AllDerive R depth no_trees [] = Unit {0}
  AllDerive R depth no_trees (g ∷ gs) = ⊥
  AllDerive R depth (tree t ts) [] = ⊥
  AllDerive R depth (tree t ts) (g ∷ gs) = DerivesBy R depth t g × AllDerive R depth ts gs

abbrev pub Derives : PlainProgram → ℕ → PlainTree → PlainGoal → Type 0
Derives p depth t g = DerivesBy (Subgoals p) depth t g

-- a root without tasks has no tree
abbrev pub RootDerives : PlainProgram → Option PlainTree → Option PlainGoal → Type 0
RootDerives p None None = Unit {0}
RootDerives p (Some t) (Some g) = Derives p 1 t g
RootDerives p _ _ = ⊥

-- one tree for each root of all units, the terms of which stay within 128 bits
pub record Valid (p : PlainProgram) (trees : List (Option PlainTree)) : Type 0 where
  pub narrow : first_wide (all_roots_steps p) ≡ None
  pub derivations : AllZip (RootDerives p) trees (all_roots p)
