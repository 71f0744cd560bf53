use Rattle.std.proofs.Common.{◌≡◌, ◌++◌, map, drop}
use Rattle.cap_gen.specs.Trial.{filled}
use Rattle.cap_gen.specs.Views.{fragment_view}
use Rattle.cap_gen.proofs.trial.push_filled.Given as goal

-- what was written and what is left are the whole
abbrev pub invariant-loop-fragment : goal.invariant-loop-fragment
invariant-loop-fragment l =
    l.text.items ++ filled l.number (map fragment_view (drop l.fragment-index l.fragments))
    ≡ l.fn.text.items ++ filled l.number (map fragment_view l.fragments)
