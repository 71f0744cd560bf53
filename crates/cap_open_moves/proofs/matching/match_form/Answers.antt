use Rattle.cap_rules_steps.proofs.Walking.{weaker, inapplicable}
use Rattle.cap_open_moves.proofs.matching.match_form.Goals as goal

pub returns-in-At : goal.returns-in-At
returns-in-At c = rw c.in-At.is (weaker _ _ _ inapplicable)

pub returns-in-From : goal.returns-in-From
returns-in-From c = rw c.in-From.is (weaker _ _ _ inapplicable)
