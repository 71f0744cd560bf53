use Rattle.std.proofs.Common.{rules}
use Rattle.cap_rules_steps.proofs.Walking.{making}
use Rattle.cap_rules_steps.proofs.changes.with_sort.Goals as goal

pub returns-clause-makes : goal.returns-clause-makes
returns-clause-makes c = search (rules, making)
