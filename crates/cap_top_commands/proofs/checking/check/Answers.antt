use Rattle.cap_prog.specs.Views.{program_view}
use Rattle.cap_goal.specs.Views.{choice_view}
use Rattle.cap_deriv.specs.Telling.{left_to_tell, trees_of_cursor}
use Rattle.cap_kernel_check.specs.JudgeViews.{judge_view}
use Rattle.cap_top_commands.proofs.Following.{goes_on, ends, says_bad_rest}
use Rattle.cap_top_commands.proofs.checking.check.Goals as goal

pub lines-preserved : goal.lines-preserved
lines-preserved c =
    let told = rw c.in-Ok-Some.field-0-is at c.in-Ok-Some.ensures.tells in
    goes_on (program_view c.args.program.now) c.args.bytes.now
    (trees_of_cursor c.lines.cursor) (trees_of_cursor c.next.new.self)
    (left_to_tell c.lines.cursor) (left_to_tell c.next.new.self)
    (judge_view c.lines.judge) (judge_view c.take.new.judge) (choice_view c.in-Ok-Some.choice)
    c.lines.invariant told c.in-Ok-Some.ensures.trees c.in_ok-take-in-Ok-Some.ensures

pub returns-in-Ok-None : goal.returns-in-Ok-None
returns-in-Ok-None c =
    let told = rw c.in-Ok-None.field-0-is at c.in-Ok-None.ensures.tells in
    ends (program_view c.args.program.now) c.args.bytes.now c.judgements_are_one.ensures
    (trees_of_cursor c.lines.cursor) (left_to_tell c.lines.cursor) (judge_view c.lines.judge) c.finish.result
    c.lines.invariant told.0 c.finish.ensures

pub returns-in-Err-next : goal.returns-in-Err-next
returns-in-Err-next c =
    says_bad_rest (program_view c.args.program.now) c.args.bytes.now
    (trees_of_cursor c.lines.cursor) (left_to_tell c.lines.cursor) (left_to_tell c.next.new.self) (judge_view c.lines.judge)
    c.in-Err-next.error c.bad_lines-in-Err-next.result
    c.lines.invariant c.in-Err-next.ensures.tells c.bad_lines-in-Err-next.ensures
