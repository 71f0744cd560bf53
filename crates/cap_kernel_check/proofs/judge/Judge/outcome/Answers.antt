use Rattle.std.proofs.Common.{ap, drop, option_map}
use Rattle.cap_goal.specs.Views.{goal_view}
use Rattle.cap_kernel_check_steps.specs.Debts.{debt_view}
use Rattle.cap_kernel_check.specs.JudgeViews.{judge_view}
use Rattle.cap_kernel_check_steps.proofs.Judgements.{ends-barred, ends-missing}
use Rattle.cap_kernel_check.proofs.judge.Judge.outcome.Goals as goal

pub returns-in-None-goal : goal.returns-in-None-goal
returns-in-None-goal c =
    let j = judge_view c.args.self.now in
    ends-barred j (debt_view c.in-Some.debt.now) (drop 1 j.owed) c.requires (rw c.deref.ensures.value at c.in-Some.ensures) (ap (option_map goal_view) c.in-None-goal.is)

pub returns-in-Some-goal : goal.returns-in-Some-goal
returns-in-Some-goal c =
    let j = judge_view c.args.self.now in
    ends-missing j (debt_view c.in-Some.debt.now) (drop 1 j.owed) (goal_view c.in-Some-goal.field-0) c.requires (rw c.deref.ensures.value at c.in-Some.ensures) (ap (option_map goal_view) c.in-Some-goal.is)
