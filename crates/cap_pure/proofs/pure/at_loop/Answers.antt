use Rattle.std.proofs.Common.{sym, ap, ◌∙◌}
use Rattle.cap_pure.specs.Heads.{upcoming_seen}
use Rattle.cap_pure.proofs.Others.{none-ahead}
use Rattle.cap_pure.proofs.pure.at_loop.Goals as goal

pub returns-in-None : goal.returns-in-None
returns-in-None c = none-ahead c.args.state.now _ (sym c.in_ok-upcoming_in.ensures ∙ ap upcoming_seen c.in-None.is)
