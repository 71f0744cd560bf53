use Rattle.std.proofs.Common.{◌≡◌, ◌++◌, map}
use Rattle.cap_gen.specs.Trial.{numbered}
use Rattle.cap_gen.specs.Views.{fragment_view}
use Rattle.cap_gen.proofs.trial.push_numbered.Given as goal

-- the fragments stand there for each number that is done
abbrev pub invariant-loop-done : goal.invariant-loop-done
invariant-loop-done l =
    l.text.items ≡ l.fn.text.items ++ numbered (map fragment_view l.fragments) l.done
