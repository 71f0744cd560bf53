use Rattle.cap_kernel_check.specs.JudgeViews.{judge_view}
use Rattle.cap_kernel_check_steps.proofs.Judgements.{ends-judged}
use Rattle.cap_kernel_check.proofs.judge.Judge.finish.Goals as goal

pub returns-in-Some : goal.returns-in-Some
returns-in-Some c = ends-judged (judge_view c.args.self) c.in-Some.fault c.in-Some.is
