use Rattle.cap_rules_steps.proofs.Walking.{done, weaker}
use Rattle.cap_take_guards.proofs.spans.prove_end.Goals as goal

pub returns-in-None : goal.returns-in-None
returns-in-None c = rw c.in-None.is (weaker _ _ _ (done _))
