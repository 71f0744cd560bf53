use Rattle.cap_top_commands.proofs.Answering.{show_prints, show_answers}
use Rattle.cap_top_commands.proofs.answer.show.Goals as goal

pub returns-in_ok-print-in-Ok : goal.returns-in_ok-print-in-Ok
returns-in_ok-print-in-Ok c =
    show_prints c.args.bytes.now c.in-Ok.tree c.in_ok-print-in-Ok.field-0.items c.in-Ok.ensures
    c.in_ok-print-in-Ok.ensures

pub returns-in-Err : goal.returns-in-Err
returns-in-Err c = show_answers c.args.bytes.now c.in-Err.refusal c.refuse.result c.in-Err.ensures c.refuse.ensures
