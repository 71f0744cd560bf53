use Rattle.std.proofs.Common.{◌≡◌, ◌++◌, drop, map}
use Rattle.cap_prog.specs.Views.{function_view}
use Rattle.cap_outline.specs.Gathered.{gathered_functions}
use Rattle.cap_outline.proofs.text.push_functions.Given as goal

-- what is written and what is left are the whole
abbrev pub invariant-loop-number : goal.invariant-loop-number
invariant-loop-number l =
    l.text.items ++ gathered_functions l.gathered l.number (map function_view (drop l.number l.functions))
    ≡ l.fn.text.items ++ gathered_functions l.gathered 0 (map function_view l.functions)
