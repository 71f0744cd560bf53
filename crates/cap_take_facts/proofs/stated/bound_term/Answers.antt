use Rattle.std.proofs.Common.{Some, sym, ap, ◌∙◌}
use Rattle.cap_rules_steps.proofs.Walking.{there, lacking}
use Rattle.cap_take_facts.proofs.stated.bound_term.Goals as goal

pub returns-in-None : goal.returns-in-None
returns-in-None c = lacking _ c.in-None.is

pub returns-in_ok-copy-in-Some : goal.returns-in_ok-copy-in-Some
returns-in_ok-copy-in-Some c = there _ _ (c.in-Some.is ∙ ap Some (sym c.in_ok-copy-in-Some.ensures))
