use Rattle.std.proofs.Common.{◌+◌, ◌*◌, ◌≤◌, length, drop, map}
use Rattle.cap_prog.specs.Views.{program_view}
use Rattle.cap_goal.specs.Trees.{nodes_view}
use Rattle.cap_goal.specs.Views.{goal_view}
use Rattle.cap_kernel_check_steps.specs.Views.{walk_view}
use Rattle.cap_kernel_check_steps.specs.Walks.{Outcome, VisitsAll}
use Rattle.cap_kernel_check.proofs.tree.+walk.Given as goal

abbrev pub decreases-visit : goal.decreases-visit
decreases-visit l = 3 * l.room

abbrev pub decreases-visit_all : goal.decreases-visit_all
decreases-visit_all l = 3 * l.room + 1

abbrev pub decreases-below : goal.decreases-below
decreases-below l = 3 * l.room + 2

-- what the walk over the trees that remain makes is what it makes of all
abbrev pub invariant-visit_all-loop-index : goal.invariant-visit_all-loop-index
invariant-visit_all-loop-index l = record {
  within : l.index ≤ length l.goals;
  remains : (o : Outcome) →
      VisitsAll (program_view l.program) (walk_view l.walk) l.room (nodes_view (drop l.index l.nodes)) (map goal_view (drop l.index l.goals)) o →
      VisitsAll (program_view l.program) (walk_view l.fn.walk) l.room (nodes_view l.nodes) (map goal_view l.goals) o;
}
