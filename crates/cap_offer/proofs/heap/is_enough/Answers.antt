use Rattle.std.proofs.Common.{List, length, ap, ◌∙◌}
use Rattle.std.specs.Prelude.{◌==◌}
use Rattle.cap_goal_spec.specs.States.{PlainFact}
use Rattle.cap_offer.proofs.Noted.{no-opened}
use Rattle.cap_offer.proofs.heap.is_enough.Goals as goal

pub returns-in-Some : goal.returns-in-Some
returns-in-Some c =
    rw c.in-Some.is (c.is_empty.ensures ∙ (ap (λ (fs : List PlainFact). length fs == 0) c.opened.ensures ∙ no-opened c.args.state.now.opened))
