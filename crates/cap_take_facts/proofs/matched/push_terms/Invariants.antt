use Rattle.std.proofs.Common.{◌≡◌, ◌++◌, drop}
use Rattle.cap_take_holdings.specs.Seen.{lent_terms}
use Rattle.cap_take_facts.proofs.matched.push_terms.Given as goal

abbrev pub invariant-loop-term : goal.invariant-loop-term
invariant-loop-term l = lent_terms l.terms.items ++ drop l.term-index l.more ≡ lent_terms l.fn.terms.items ++ l.more
