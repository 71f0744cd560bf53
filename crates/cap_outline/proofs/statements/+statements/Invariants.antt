use Rattle.std.proofs.Common.{◌≡◌, ◌++◌, drop}
use Rattle.cap_prog.specs.Parts.{all_statements}
use Rattle.cap_prog.specs.Views.{block_view}
use Rattle.cap_outline.specs.Gathered.{gathered_texts}
use Rattle.cap_outline.proofs.statements.+statements.Given as goal

-- what is written and what is left are the whole
abbrev pub invariant-push_statements-loop-statement : goal.invariant-push_statements-loop-statement
invariant-push_statements-loop-statement l =
    l.text.items ++ gathered_texts l.gathered l.function (all_statements (block_view (drop l.statement-index l.list)))
    ≡ l.fn.text.items ++ gathered_texts l.gathered l.function (all_statements (block_view l.list))
