use Rattle.cap_prog.specs.Views.{program_view}
use Rattle.cap_goal.specs.Views.{choice_view, goal_view}
use Rattle.cap_rules_steps.specs.Goals.{goals_view}
use Rattle.cap_kernel.proofs.Deciding.{decides}
use Rattle.cap_kernel.proofs.rules.subgoals.Goals as goal

pub returns-clause-proven : goal.returns-clause-proven
returns-clause-proven c =
    let a = c.args in
    decides c.subgoals_are_proven.ensures c.proven_have_subgoals.ensures goals_view c.subgoals_by.result (program_view a.program.now) (goal_view a.goal.now) (choice_view a.choice.now) c.requires.sorts c.subgoals_by.ensures
