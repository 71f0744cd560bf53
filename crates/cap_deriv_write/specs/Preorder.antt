-- The choices of trees in preorder: a node's own before those of its subtrees, from the first.
use Rattle.std.specs.Prelude.{List, [], ◌∷◌, ◌++◌, Option, Some, None}
use Rattle.cap_goal_spec.specs.Choices.{PlainChoice, PlainTree, node, PlainTrees, no_trees, tree}

abbrev mutual
  pub choices_of_tree : PlainTree → List PlainChoice
  choices_of_tree (node c ts) = c ∷ choices_of_trees ts

  pub choices_of_trees : PlainTrees → List PlainChoice
  choices_of_trees no_trees = []
  choices_of_trees (tree t ts) = choices_of_tree t ++ choices_of_trees ts

-- of a root's tree, where it has one
abbrev pub choices_of_root : Option PlainTree → List PlainChoice
choices_of_root None = []
choices_of_root (Some t) = choices_of_tree t

abbrev pub choices_of_roots : List (Option PlainTree) → List PlainChoice
choices_of_roots [] = []
choices_of_roots (r ∷ rs) = choices_of_root r ++ choices_of_roots rs
