use Rattle.std.proofs.Common.{◌≡◌, ◌++◌, map}
use Rattle.std.specs.Iterator.Adapters.{zip_first, zip_second}
use Rattle.std.specs.Slice.Iter.{iter_rest}
use Rattle.std.specs.Vec.Iter.{into_iter_items}
use Rattle.cap_prog.specs.Program.{PlainProgram}
use Rattle.cap_goal.specs.Trees.{nodes_view}
use Rattle.cap_goal.specs.Views.{goal_view}
use Rattle.cap_rules_steps.specs.Goals.{goals_view}
use Rattle.cap_rules_nodes.specs.Nodes.{all_nodes_at}
use Rattle.cap_kernel_nodes.specs.Views.{all_tree_nodes}
use Rattle.cap_kernel_nodes.proofs.ahead.trees_beside.Given as goal

-- the nodes of the trees so far, and those of the trees that remain
abbrev pub invariant-loop-goal : goal.invariant-loop-goal
invariant-loop-goal l =
    (p : PlainProgram) →
    all_tree_nodes p l.trees.items
    ++ all_nodes_at p (nodes_view (iter_rest (zip_second l.goal-iterator))) (map goal_view (into_iter_items (zip_first l.goal-iterator)))
    ≡ all_nodes_at p (nodes_view l.fn.nodes) (goals_view l.fn.goals)
