use Rattle.cap_rules_steps.proofs.Walking.{inapplicable, weaker}
use Rattle.cap_take_guards.proofs.spans.index_alone.Goals as goal

pub returns-in-None : goal.returns-in-None
returns-in-None c = rw c.in-None.is (weaker _ _ _ inapplicable)
