-- Trees that take an offered choice at each node.
use Rattle.std.specs.Prelude.{ℕ, suc, ◌≤◌, List, [], ◌∷◌, Option, Some, None}
use Rattle.cap_prog.specs.Program.{PlainProgram}
use Rattle.cap_goal_spec.specs.States.{PlainGoal}
use Rattle.cap_goal_spec.specs.Choices.{PlainChoice, PlainTree, node, PlainTrees, no_trees, tree}
use Rattle.cap_rules.specs.Answers.{Subgoals}
use Rattle.cap_rules.specs.Valid.{deepest, DerivesBy, AllDerive}
use Rattle.cap_offer_spec.specs.Members.{IsOneOf, IsFirstOf}
use Rattle.cap_offer_spec.specs.Offering.{offered}

abbrev pub IsOffered : PlainProgram → PlainGoal → PlainChoice → Type 0
IsOffered p g c = IsOneOf (offered p g).value c

-- the choice is offered at the goal, and these are its subgoals
abbrev pub TakesOffered : PlainProgram → PlainGoal → PlainChoice → List PlainGoal → Type 0
TakesOffered p g c gs = IsOffered p g c × Subgoals p g c gs

-- an offered choice is taken at each node, and none is deeper than a thousand
abbrev pub IsGuided : PlainProgram → ℕ → PlainTree → PlainGoal → Type 0
IsGuided p depth t g = DerivesBy (TakesOffered p) depth t g

abbrev pub AreGuided : PlainProgram → ℕ → PlainTrees → List PlainGoal → Type 0
AreGuided p depth ts gs = AllDerive (TakesOffered p) depth ts gs

-- the choice's subgoals have guided trees, where its goal is at this depth
abbrev pub IsPossible : PlainProgram → ℕ → PlainGoal → PlainChoice → Type 0
IsPossible p depth g c =
    (gs : List PlainGoal) × Subgoals p g c gs × (ts : PlainTrees) × AreGuided p (suc depth) ts gs

-- the tree that takes the first possible choice at each node
abbrev mutual
  pub IsFirst : PlainProgram → ℕ → PlainTree → PlainGoal → Type 0
  IsFirst p depth (node c trees) g =
      (depth ≤ deepest) × (gs : List PlainGoal)
      × (IsFirstOf (IsPossible p depth g) (offered p g).value c × Subgoals p g c gs)
      × AreFirst p (suc depth) trees gs

  pub AreFirst : PlainProgram → ℕ → PlainTrees → List PlainGoal → Type 0
  AreFirst p depth no_trees [] = Unit {0}
  AreFirst p depth no_trees (g ∷ gs) = ⊥
  AreFirst p depth (tree t ts) [] = ⊥
  AreFirst p depth (tree t ts) (g ∷ gs) = IsFirst p depth t g × AreFirst p depth ts gs

-- a root is at depth 1; one without tasks has no tree
abbrev pub IsRootTree :
    (ℕ → PlainTree → PlainGoal → Type 0) → Option PlainTree → Option PlainGoal → Type 0
IsRootTree P None None = Unit {0}
IsRootTree P (Some t) (Some g) = P 1 t g
IsRootTree P _ _ = ⊥
