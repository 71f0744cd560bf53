-- What contracts see of a walk and of the nodes that it comes to.
use Rattle.std.specs.Prelude.{List, [], ◌∷◌, reverse, map, flat_map, option_map, Option, Some, None}
use Rattle.cap_prog.specs.Program.{PlainProgram}
use Rattle.cap_goal_spec.specs.Choices.{PlainTree}
use Rattle.cap_goal.specs.declared.choice.Node.{Node}
use Rattle.cap_goal.specs.Trees.{node_view}
use Rattle.cap_goal.specs.Views.{choice_view, goal_view}
use Rattle.cap_kernel_nodes.specs.declared.ahead.GoalTree.{GoalTree}
use Rattle.cap_kernel_nodes.specs.declared.walk.GoalNode as code
use Rattle.cap_kernel_nodes.specs.declared.walk.NodeWalk.{NodeWalk}
use Rattle.cap_rules_nodes.specs.Nodes.{GoalNode, nodes_at}

abbrev pub goal_node_view : code.GoalNode → GoalNode
goal_node_view n = record { goal = goal_view n.goal; choice = choice_view n.choice.now }

abbrev pub tree_nodes : PlainProgram → GoalTree → List GoalNode
tree_nodes p t = nodes_at p (node_view t.node.now) (goal_view t.goal)

abbrev pub all_tree_nodes : PlainProgram → List GoalTree → List GoalNode
all_tree_nodes p ts = flat_map (tree_nodes p) ts

-- the nodes that are still to come; the tree that comes next is the last
abbrev pub nodes_ahead : PlainProgram → NodeWalk → List GoalNode
nodes_ahead p w = all_tree_nodes p (reverse w.ahead.items)

-- the node that comes first, if one comes, and those behind it
abbrev pub behind_next : Option code.GoalNode → List GoalNode → List GoalNode
behind_next None after = []
behind_next (Some n) after = goal_node_view n ∷ after

-- the trees of roots
abbrev pub trees_lent : List (Option Node) → List (Option PlainTree)
trees_lent ts = map (option_map node_view) ts
