use Rattle.std.proofs.Common.{◌≡◌, ◌≤◌, drop, length, map}
use Rattle.std.specs.Vec.Iter.{into_iter_items}
use Rattle.cap_prog.specs.Views.{program_view}
use Rattle.cap_goal.specs.Trees.{nodes_view}
use Rattle.cap_goal.specs.Views.{goal_view}
use Rattle.cap_rules_steps.specs.Goals.{goals_view}
use Rattle.cap_owners_places.specs.Places.{all_placed_at}
use Rattle.cap_owners_places.specs.Proven.{AllAreProven}
use Rattle.cap_owners_places.specs.Views.{placed_view}
use Rattle.cap_owners_places.proofs.Placing.{behind}
use Rattle.cap_owners_places.proofs.tree.+place.Given as goal

-- what is placed so far, and then the trees that remain, beside the goals that remain
abbrev pub invariant-place_all-loop-node : goal.invariant-place_all-loop-node
invariant-place_all-loop-node l = record {
  within : l.node-index ≤ length l.nodes;
  proven : AllAreProven (program_view l.program) (nodes_view (drop l.node-index l.nodes)) (map goal_view (into_iter_items l.goals));
  placed :
      behind (map placed_view l.places.items) (all_placed_at (program_view l.program) (nodes_view (drop l.node-index l.nodes)) (map goal_view (into_iter_items l.goals)))
      ≡ all_placed_at (program_view l.program) (nodes_view l.nodes) (goals_view l.fn.goals);
}
