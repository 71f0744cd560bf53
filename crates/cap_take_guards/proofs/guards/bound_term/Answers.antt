use Rattle.std.proofs.Common.{◌∙◌, sym, ap}
use Rattle.std.specs.Option.{option_copied}
use Rattle.cap_rules_steps.proofs.Walking.{there, lacking}
use Rattle.cap_take_guards.proofs.guards.bound_term.Goals as goal

pub returns-in-None : goal.returns-in-None
returns-in-None c = lacking _ (sym c.term_of.ensures ∙ ap option_copied c.in-None.is)

pub returns-in-Some : goal.returns-in-Some
returns-in-Some c = there _ _ (sym c.term_of.ensures ∙ ap option_copied c.in-Some.is)
