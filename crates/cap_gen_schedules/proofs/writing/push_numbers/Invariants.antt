use Rattle.std.proofs.Common.{◌≡◌, ◌++◌, drop}
use Rattle.cap_replay_schedules.specs.Writing.{numbers_text}
use Rattle.cap_gen_schedules.proofs.writing.push_numbers.Given as goal

-- what is written, in front of what is left
abbrev pub invariant-loop-number : goal.invariant-loop-number
invariant-loop-number l =
    l.text.items ++ numbers_text (drop l.number-index l.numbers)
    ≡ l.fn.text.items ++ numbers_text l.numbers
