use Rattle.cap_prog.specs.Views.{program_view}
use Rattle.cap_goal.specs.Views.{goal_view, choice_view}
use Rattle.cap_rules_steps.specs.Goals.{goals_view}
use Rattle.cap_kernel_check_steps.proofs.Leaving.{refused-leaves}
use Rattle.cap_kernel_check_steps.proofs.left.goals_left.Goals as goal

pub returns-in-Ok-clause-kept : goal.returns-in-Ok-clause-kept
returns-in-Ok-clause-kept c = λ k.
    c.subgoals_are_kept.ensures (program_view c.args.program.now) (goal_view c.args.goal.now) (choice_view c.args.choice.now) (goals_view c.in-Ok.goals) c.well_formed-2.ensures k c.in-Ok.ensures.answered

pub returns-in-Err-clause-left : goal.returns-in-Err-clause-left
returns-in-Err-clause-left c =
    refused-leaves (program_view c.args.program.now) (goal_view c.args.goal.now) (choice_view c.args.choice.now) c.in-Err.error goals_view c.refused.result c.in-Err.ensures.answered c.refused.ensures
