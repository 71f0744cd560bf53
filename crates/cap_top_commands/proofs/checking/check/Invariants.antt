use Rattle.cap_prog.specs.Views.{program_view}
use Rattle.cap_deriv.specs.Telling.{left_to_tell, trees_of_cursor}
use Rattle.cap_kernel_check.specs.JudgeViews.{judge_view}
use Rattle.cap_top_commands.proofs.Following.{Follows, count}
use Rattle.cap_top_commands.proofs.checking.check.Given as goal

abbrev pub invariant-lines : goal.invariant-lines
invariant-lines l =
    Follows (program_view l.fn.program) l.fn.bytes (trees_of_cursor l.cursor) (left_to_tell l.cursor)
    (judge_view l.judge)

abbrev pub decreases-lines : goal.decreases-lines
decreases-lines l = count (left_to_tell l.cursor)
