use Rattle.cap_resolve_spec.proofs.First.{refusal-is, unrefused-right, right-unrefused}
use Rattle.cap_resolve_spec.proofs.laws.refusals_are_first.Goals as goal

pub returns-clause-first : goal.returns-clause-first
returns-clause-first c = refusal-is

pub returns-clause-none : goal.returns-clause-none
returns-clause-none c t = (unrefused-right t, right-unrefused t)
