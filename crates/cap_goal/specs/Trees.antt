-- What contracts see of trees and bundles.
use Rattle.std.specs.Prelude.{List, [], ◌∷◌, map, option_map, Option}
use Rattle.cap_goal_spec.specs.Choices.{PlainTree, node, PlainTrees, no_trees, tree}
use Rattle.cap_goal.specs.declared.choice.Node.{Node, fold-Node}
use Rattle.cap_goal.specs.declared.choice.Node.TheOpen.{Node-F}
use Rattle.cap_goal.specs.declared.choice.Bundle.{Bundle}
use Rattle.cap_goal.specs.Views.{choice_view}

abbrev pub trees_of : List PlainTree → PlainTrees
trees_of [] = no_trees
trees_of (t ∷ ts) = tree t (trees_of ts)

abbrev pub node_step : Node-F PlainTree → PlainTree
node_step n = node (choice_view n.choice) (trees_of n.children.items)

abbrev pub node_view : Node → PlainTree
node_view = fold-Node PlainTree node_step

-- the trees of these nodes
abbrev pub nodes_view : List Node → PlainTrees
nodes_view ns = trees_of (map node_view ns)

abbrev pub bundle_view : Bundle → List (Option PlainTree)
bundle_view b = map (option_map node_view) b.trees.items
