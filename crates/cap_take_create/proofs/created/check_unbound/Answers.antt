use Rattle.std.proofs.Common.{sym, ap, ◌∙◌}
use Rattle.std.specs.Prelude.{is_none}
use Rattle.std.specs.Option.{option_copied}
use Rattle.cap_rules_steps.proofs.Walking.{needed, unneeded}
use Rattle.cap_take_create.proofs.created.check_unbound.Goals as goal

pub returns-in-None : goal.returns-in-None
returns-in-None c =
    let e = rw c.env_at.ensures at c.term_of.ensures in
    needed _ (ap is_none (sym e ∙ ap option_copied c.in-None.is))

pub returns : goal.returns
returns c =
    let e = rw c.env_at.ensures at c.term_of.ensures in
    unneeded _ (ap is_none (sym e ∙ ap option_copied c.in-Some.is))
