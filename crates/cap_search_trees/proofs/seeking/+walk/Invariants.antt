use Rattle.std.proofs.Common.{◌≡◌, ◌+◌, ◌*◌, drop, map}
use Rattle.std.specs.Vec.Iter.{into_iter_items}
use Rattle.cap_prog.specs.Views.{program_view}
use Rattle.cap_goal.specs.Trees.{node_view}
use Rattle.cap_goal.specs.Views.{choice_view, goal_view}
use Rattle.cap_search_spec.specs.Seeking.{tree_within, first_tree, all_trees}
use Rattle.cap_search_spec.specs.Walks.{walked_within, choices_walked, goals_walked}
use Rattle.cap_search_trees.specs.Searchable.{AreOffered}
use Rattle.cap_search_trees.specs.Searching.{behind}
use Rattle.cap_search_trees.specs.Views.{walk_view}
use Rattle.cap_search_trees.proofs.seeking.+walk.Given as goal

abbrev pub decreases-prove : goal.decreases-prove
decreases-prove l = 3 * l.room

abbrev pub decreases-prove_all : goal.decreases-prove_all
decreases-prove_all l = 3 * l.room + 1

abbrev pub decreases-by_choices : goal.decreases-by_choices
decreases-by_choices l = 3 * l.room + 2

abbrev pub invariant-by_choices-loop-choice : goal.invariant-by_choices-loop-choice
invariant-by_choices-loop-choice l =
    let p = program_view l.program in
    let g = goal_view l.goal in
    let whole = map choice_view l.fn.choices.items in
    let rest = map choice_view (into_iter_items l.choice-iterator) in
    AreOffered p g rest
    × (first_tree p (tree_within p l.room) g whole ≡ first_tree p (tree_within p l.room) g rest)
    × (choices_walked p (tree_within p l.room) (walked_within p l.room) g (walk_view l.fn.walk) whole
    ≡ choices_walked p (tree_within p l.room) (walked_within p l.room) g (walk_view l.walk) rest)

abbrev pub invariant-prove_all-loop-goal : goal.invariant-prove_all-loop-goal
invariant-prove_all-loop-goal l =
    let p = program_view l.program in
    let whole = map goal_view l.goals in
    let rest = map goal_view (drop l.goal-index l.goals) in
    (all_trees (tree_within p l.room) whole
    ≡ behind (map node_view l.children.items) (all_trees (tree_within p l.room) rest))
    × (goals_walked (tree_within p l.room) (walked_within p l.room) (walk_view l.fn.walk) whole
    ≡ goals_walked (tree_within p l.room) (walked_within p l.room) (walk_view l.walk) rest)
