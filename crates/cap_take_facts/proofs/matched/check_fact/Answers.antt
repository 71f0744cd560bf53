use Rattle.std.proofs.Common.{sym, ◌∙◌}
use Rattle.cap_rules_steps.proofs.Walking.{needed, unneeded}
use Rattle.cap_take_facts.proofs.matched.check_fact.Goals as goal

pub returns-then-is_held : goal.returns-then-is_held
returns-then-is_held c = needed _ (sym c.is_held.ensures ∙ c.if-is_held.true)

pub returns-else-is_held : goal.returns-else-is_held
returns-else-is_held c = unneeded _ (sym c.is_held.ensures ∙ c.if-is_held.false)
