use Rattle.cap_machine.proofs.ValueLemmas.{IsSoFar}
use Rattle.cap_machine.proofs.evaluation.evaluate_all.Given as goal

abbrev pub invariant-loop-term : goal.invariant-loop-term
invariant-loop-term l = IsSoFar l.store l.terms l.term-index l.values.items
