use Rattle.std.proofs.Common.{◌≡◌, drop}
use Rattle.cap_prog.specs.Views.{program_view}
use Rattle.cap_goal_roots.specs.Views.{roots_view}
use Rattle.cap_search_spec.specs.Seeking.{unit_trees}
use Rattle.cap_search_spec.specs.Walks.{unit_walked}
use Rattle.cap_search_trees.specs.Searchable.{RootsAreSearchable}
use Rattle.cap_search_trees.specs.Searching.{behind}
use Rattle.cap_search_trees.specs.Views.{trees_seen, walk_view}
use Rattle.cap_search_trees.proofs.judging.prove_roots.Given as goal

abbrev pub invariant-loop-number : goal.invariant-loop-number
invariant-loop-number l =
    let p = program_view l.program in
    let whole = roots_view l.roots in
    let rest = roots_view (drop l.number l.roots) in
    RootsAreSearchable p rest
    × (unit_trees p whole ≡ behind (trees_seen l.trees) (unit_trees p rest))
    × (unit_walked p 0 (walk_view l.fn.walk) whole ≡ unit_walked p l.number (walk_view l.walk) rest)
