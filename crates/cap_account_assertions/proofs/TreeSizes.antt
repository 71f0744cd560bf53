-- Sizes of trees, and the trees of two lists of goals.
use Rattle.std.proofs.Common.{◌≡◌, ℕ, zero, suc, ◌+◌, List, ◌++◌, length, arith, refl}
use Rattle.cap_goal_spec.specs.States.{PlainGoal}
use Rattle.cap_goal_spec.specs.Choices.{PlainTree, node, PlainTrees, no_trees, tree}
use Rattle.cap_account_states.specs.Nodes.{NodePredicate, Children}
use Rattle.cap_account_states.proofs.Checked.{first_trees, later_trees, children-first, children-later}

abbrev mutual
  pub tree_size : PlainTree → ℕ
  tree_size (node c below) = suc (trees_size below)

  pub trees_size : PlainTrees → ℕ
  trees_size no_trees = 0
  trees_size (tree d more) = tree_size d + trees_size more

-- trees of two lists of goals, apart: neither are larger than both
pub record TreesApart (N : NodePredicate) (trees : PlainTrees)
    (gs hs : List PlainGoal) : Type 0 where
  pub before : PlainTrees
  pub behind : PlainTrees
  pub of_first : Children N before gs
  pub of_second : Children N behind hs
  pub sizes : trees_size before + trees_size behind ≡ trees_size trees

pub trees-sizes :
    (n : ℕ) (ks : PlainTrees) →
    trees_size (first_trees n ks) + trees_size (later_trees n ks) ≡ trees_size ks
trees-sizes zero ks = omega arith
trees-sizes (suc n) no_trees = refl
trees-sizes (suc n) (tree d more) = let e = trees-sizes n more in omega (arith, e)

abbrev pub trees-apart :
    (N : NodePredicate) (trees : PlainTrees) (gs hs : List PlainGoal) →
    Children N trees (gs ++ hs) → TreesApart N trees gs hs
trees-apart N trees gs hs h = record {
  before = first_trees (length gs) trees;
  behind = later_trees (length gs) trees;
  of_first = children-first N trees gs hs h;
  of_second = children-later N trees gs hs h;
  sizes = trees-sizes (length gs) trees;
}
