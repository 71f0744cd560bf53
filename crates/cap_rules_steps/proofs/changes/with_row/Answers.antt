use Rattle.std.proofs.Common.{rules}
use Rattle.cap_rules_steps.proofs.Walking.{making}
use Rattle.cap_rules_steps.proofs.changes.with_row.Goals as goal

pub returns : goal.returns
returns c = search (rules, making)
