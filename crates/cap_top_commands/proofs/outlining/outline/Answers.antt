use Rattle.cap_prog.specs.Views.{program_view}
use Rattle.cap_top_commands.proofs.Outlines.{says_bad_lines}
use Rattle.cap_top_commands.proofs.outlining.outline.Goals as goal

pub returns-in-Ok : goal.returns-in-Ok
returns-in-Ok c = c.outline_lines.ensures c.args.bytes.now c.in-Ok.ensures

pub returns-in-Err : goal.returns-in-Err
returns-in-Err c =
    says_bad_lines (program_view c.args.program.now) c.args.bytes.now c.judged_are_valid.ensures
    c.judgements_are_one.ensures c.in-Err.error c.bad_lines.result c.in-Err.ensures c.bad_lines.ensures
