use Rattle.std.proofs.Common.{◌≡◌, ◌∷◌, take}
use Rattle.cap_stab_states.proofs.finding.first_terms.Given as goal

abbrev pub invariant-loop-term : goal.invariant-loop-term
invariant-loop-term l = l.terms.items ≡ l.fact.region ∷ take l.term-index l.fact.args
