use Rattle.std.proofs.Common.{◌≡◌, ◌++◌, drop}
use Rattle.cap_prog.specs.Views.{program_view}
use Rattle.cap_owners.specs.Accounts.{lines_from}
use Rattle.cap_owners.proofs.account.push_lines.Given as goal

-- what is written and what is left are the whole
abbrev pub invariant-loop-number : goal.invariant-loop-number
invariant-loop-number l =
    l.text.items ++ lines_from (program_view l.program) l.thread l.number (drop l.number l.frames) (drop l.number l.tracked)
    ≡ l.fn.text.items ++ lines_from (program_view l.program) l.thread 0 l.frames l.tracked
