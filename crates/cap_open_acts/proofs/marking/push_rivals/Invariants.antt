use Rattle.std.proofs.Common.{◌≡◌, ◌++◌, drop}
use Rattle.cap_rules_steps.specs.cap_rules.Closing.{rivals_from}
use Rattle.cap_open_acts.specs.Views.{rivals_view}
use Rattle.cap_open_acts.proofs.marking.push_rivals.Given as goal

abbrev pub invariant-loop-number : goal.invariant-loop-number
invariant-loop-number l = rivals_view l.all.items ++ rivals_from l.opened l.number (drop l.number l.facts) ≡ rivals_view l.fn.all.items ++ rivals_from l.opened 0 l.facts
