use Rattle.std.proofs.Common.{◌≡◌, ◌++◌, drop}
use Rattle.cap_goal.specs.Trees.{node_view, nodes_view}
use Rattle.cap_deriv_write.specs.Preorder.{choices_of_tree, choices_of_trees}
use Rattle.cap_deriv_write.specs.Seen.{choices_seen}
use Rattle.cap_deriv_write.proofs.preorder.+preorder.Given as goal

-- the choices so far, and those of the subtrees that are left
abbrev pub invariant-loop-child : goal.invariant-loop-child
invariant-loop-child l =
    choices_seen l.list.items ++ choices_of_trees (nodes_view (drop l.child-index l.child-items))
    ≡ choices_seen l.fn.list.items ++ choices_of_tree (node_view l.node)
