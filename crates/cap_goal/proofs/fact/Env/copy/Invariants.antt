use Rattle.std.proofs.Common.{◌≡◌, take}
use Rattle.cap_goal.proofs.fact.Env.copy.Given as goal

abbrev pub invariant-loop-term : goal.invariant-loop-term
invariant-loop-term l = l.terms.items ≡ take l.term-index l.term-items
