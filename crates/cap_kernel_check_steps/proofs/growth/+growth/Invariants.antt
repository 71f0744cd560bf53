use Rattle.std.proofs.Common.{suc, ◌+◌, ◌*◌, ◌-◌, map, take}
use Rattle.cap_prog.specs.Views.{program_view}
use Rattle.cap_rules.specs.Answers.{Subgoals}
use Rattle.cap_rules.specs.Valid.{AllDerive}
use Rattle.cap_goal.specs.Trees.{nodes_view}
use Rattle.cap_goal.specs.Views.{goal_view}
use Rattle.cap_kernel_check_steps.specs.Owed.{all_choices_of}
use Rattle.cap_kernel_check_steps.specs.Growths.{PassesOver}
use Rattle.cap_kernel_check_steps.specs.GrowthViews.{preorder_view}
use Rattle.cap_kernel_check_steps.proofs.growth.+growth.Given as goal

abbrev pub decreases-grow : goal.decreases-grow
decreases-grow l = 2 * (1000 - l.above)

abbrev pub decreases-grow_all : goal.decreases-grow_all
decreases-grow_all l = 2 * (1000 - l.above) + 1

-- the trees of the goals so far
abbrev pub invariant-grow_all-loop-goal : goal.invariant-grow_all-loop-goal
invariant-grow_all-loop-goal l = record {
  derived : AllDerive (Subgoals (program_view l.program)) (suc l.above) (nodes_view l.nodes.items) (map goal_view (take l.goal-index l.goals));
  passes : PassesOver (preorder_view l.fn.choices) (all_choices_of (nodes_view l.nodes.items)) (preorder_view l.choices);
}
