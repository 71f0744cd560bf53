use Rattle.std.proofs.Common.{sym}
use Rattle.cap_prog.specs.Views.{program_view}
use Rattle.cap_goal.specs.Views.{choice_view, goal_view}
use Rattle.cap_rules_steps.specs.Goals.{goals_view}
use Rattle.cap_kernel_nodes.proofs.Leaving.{subgoals-left}
use Rattle.cap_kernel_nodes.proofs.goals.goals_left.Goals as goal

pub returns-in-Ok : goal.returns-in-Ok
returns-in-Ok c =
    let a = c.args in
    sym (subgoals-left (program_view a.program.now) (goal_view a.goal.now) (choice_view a.choice.now) (goals_view c.in-Ok.goals) c.in-Ok.ensures.answered)
