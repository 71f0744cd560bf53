use Rattle.cap_rules_steps.proofs.Walking.{weaker, inapplicable}
use Rattle.cap_open_moves.proofs.matching.match_new_tokens.Goals as goal

pub returns-in-OpenTo : goal.returns-in-OpenTo
returns-in-OpenTo c = rw c.in-OpenTo.is (weaker _ _ _ inapplicable)

pub returns-in-Stuck : goal.returns-in-Stuck
returns-in-Stuck c = rw c.in-Stuck.is (weaker _ _ _ inapplicable)
