use Rattle.std.proofs.Common.{◌≡◌, ◌++◌, drop, map}
use Rattle.cap_rules_steps.specs.Places.{ended_by}
use Rattle.cap_rules_steps.proofs.ledger.owe_each.Given as goal

-- what is owed, and what is left to be owed
abbrev pub invariant-loop-last : goal.invariant-loop-last
invariant-loop-last l = l.ledger ++ map (ended_by l.rows) (drop l.last-index l.lasts) ≡ l.fn.ledger ++ map (ended_by l.rows) l.lasts
