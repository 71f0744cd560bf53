use Rattle.cap_rules_steps.proofs.Walking.{needed, unneeded}
use Rattle.cap_open_moves.proofs.spans.needed.Goals as goal

pub returns-then-holds : goal.returns-then-holds
returns-then-holds c = needed c.args.holds c.if-holds.true

pub returns-else-holds : goal.returns-else-holds
returns-else-holds c = unneeded c.args.holds c.if-holds.false
