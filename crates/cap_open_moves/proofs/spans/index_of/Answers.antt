use Rattle.cap_rules_steps.proofs.Walking.{inapplicable}
use Rattle.cap_open_moves.proofs.spans.index_of.Goals as goal

pub returns-in-One : goal.returns-in-One
returns-in-One c = rw c.in-One.is inapplicable
