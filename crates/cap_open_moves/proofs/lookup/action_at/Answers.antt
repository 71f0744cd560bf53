use Rattle.std.proofs.Common.{arith}
use Rattle.cap_prog.specs.Views.{action_view}
use Rattle.cap_rules_steps.proofs.Listing.{none_there}
use Rattle.cap_open_moves.proofs.Members.{view-there}
use Rattle.cap_open_moves.proofs.lookup.action_at.Goals as goal

pub returns-then-number-len : goal.returns-then-number-len
returns-then-number-len c = none_there action_view c.args.region.now.actions.items c.args.number (omega arith)

pub returns : goal.returns
returns c = view-there action_view c.args.region.now.actions.items c.args.number c.index.result.now (omega arith) c.index.ensures
