use Rattle.cap_top_commands.specs.Answers.{IsVerified}
use Rattle.cap_top_commands.proofs.Good.{good_result}
use Rattle.cap_top_commands.proofs.Startless.{startless_result}
use Rattle.cap_top_commands.proofs.answer.verify.Goals as goal

pub returns-clause-good : goal.returns-clause-good
returns-clause-good c =
    good_result c.good_answers_are_safe.ensures c.args.budget c.args.bytes.now c.judge_text.result c.judge_text.ensures

pub returns-clause-empty : goal.returns-clause-empty
returns-clause-empty c =
    startless_result IsVerified c.empty_answers_have_no_start.ensures.verified c.args.budget c.args.bytes.now
    c.judge_text.result c.judge_text.ensures
