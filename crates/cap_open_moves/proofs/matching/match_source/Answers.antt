use Rattle.cap_rules_steps.proofs.Walking.{weaker, done_as, inapplicable}
use Rattle.cap_open_moves.proofs.matching.match_source.Goals as goal

pub returns-in_ok-bind_open-in-OpenTo : goal.returns-in_ok-bind_open-in-OpenTo
returns-in_ok-bind_open-in-OpenTo c = rw c.in-OpenTo.is (weaker _ _ _ (done_as _ _ c.in_ok-bind_open-in-OpenTo.ensures))

pub returns-in-Stuck : goal.returns-in-Stuck
returns-in-Stuck c = rw c.in-Stuck.is (weaker _ _ _ inapplicable)
