use Rattle.std.proofs.Common.{◌≡◌, ◌++◌}
use Rattle.std.specs.Iterator.Adapters.{zip_first, zip_second}
use Rattle.std.specs.Slice.Iter.{iter_rest}
use Rattle.std.specs.Vec.Iter.{into_iter_items}
use Rattle.cap_prog.specs.Program.{PlainProgram}
use Rattle.cap_goal_roots.specs.Views.{roots_view}
use Rattle.cap_rules_nodes.specs.Nodes.{all_root_nodes}
use Rattle.cap_kernel_nodes.specs.Views.{all_tree_nodes, trees_lent}
use Rattle.cap_kernel_nodes.proofs.ahead.trees_at_roots.Given as goal

-- the nodes of the trees so far, and those of the trees that remain
abbrev pub invariant-loop-root : goal.invariant-loop-root
invariant-loop-root l =
    (p : PlainProgram) →
    all_tree_nodes p l.rooted.items
    ++ all_root_nodes p (trees_lent (iter_rest (zip_second l.root-iterator))) (roots_view (into_iter_items (zip_first l.root-iterator)))
    ≡ all_root_nodes p (trees_lent l.fn.trees) (roots_view l.fn.roots.items)
