use Rattle.std.proofs.Common.{◌≡◌, ◌++◌, drop}
use Rattle.cap_core_text.specs.Lines.{spaced}
use Rattle.cap_core_text.proofs.proof.push_numbers.Given as goal

-- what is written and what is left are the whole
abbrev pub invariant-loop-number : goal.invariant-loop-number
invariant-loop-number l =
    l.text.items ++ spaced (drop l.number-index l.numbers) ≡ l.fn.text.items ++ spaced l.numbers
