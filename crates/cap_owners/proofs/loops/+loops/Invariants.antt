use Rattle.std.proofs.Common.{◌≡◌, ◌++◌, drop}
use Rattle.cap_prog.specs.Parts.{all_statements}
use Rattle.cap_prog.specs.Views.{block_view}
use Rattle.cap_owners.specs.Loops.{loop_numbers}
use Rattle.cap_owners.proofs.loops.+loops.Given as goal

-- what is counted and what is left are the whole
abbrev pub invariant-push_loops-loop-statement : goal.invariant-push_loops-loop-statement
invariant-push_loops-loop-statement l =
    l.numbers.items ++ loop_numbers (all_statements (block_view (drop l.statement-index l.list)))
    ≡ l.fn.numbers.items ++ loop_numbers (all_statements (block_view l.list))
