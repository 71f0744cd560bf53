use Rattle.cap_goal.specs.Views.{choice_view}
use Rattle.cap_kernel_check.specs.JudgeViews.{judge_view}
use Rattle.cap_kernel_check_steps.proofs.Judgements.{next-judged}
use Rattle.cap_kernel_check.proofs.judge.Judge.push.Goals as goal

pub returns-in-Some-clause-judged : goal.returns-in-Some-clause-judged
returns-in-Some-clause-judged c =
    next-judged (judge_view c.args.self.now) (choice_view c.args.choice.now) c.in-Some.field-0 c.in-Some.is
