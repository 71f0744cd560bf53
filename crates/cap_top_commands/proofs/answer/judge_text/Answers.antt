use Rattle.cap_top_commands.proofs.Answering.{verify_reports, verify_answers}
use Rattle.cap_top_commands.proofs.answer.judge_text.Goals as goal

pub returns-in_ok-report_on-in-Ok : goal.returns-in_ok-report_on-in-Ok
returns-in_ok-report_on-in-Ok c =
    verify_reports c.args.budget c.args.bytes.now c.in-Ok.program c.in_ok-report_on-in-Ok.field-0
    c.in-Ok.ensures c.in_ok-report_on-in-Ok.ensures

pub returns-in-Err : goal.returns-in-Err
returns-in-Err c =
    verify_answers c.args.budget c.args.bytes.now c.in-Err.refusal c.refuse.result c.in-Err.ensures c.refuse.ensures
