use Rattle.std.proofs.Common.{◌∙◌, sym, ap}
use Rattle.std.specs.Option.{option_copied}
use Rattle.cap_rules_steps.proofs.Walking.{there, lacking}
use Rattle.cap_open_enter.proofs.lookup.heap_address.Goals as goal

pub returns-in-None : goal.returns-in-None
returns-in-None c = lacking _ (sym c.address_in.ensures ∙ ap option_copied c.in-None.is)

pub returns-in-Some : goal.returns-in-Some
returns-in-Some c = there _ _ (sym c.address_in.ensures ∙ ap option_copied c.in-Some.is)
