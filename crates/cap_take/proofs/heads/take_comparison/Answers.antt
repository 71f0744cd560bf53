use Rattle.cap_take_items.specs.Views.{remaining_view}
use Rattle.cap_take.proofs.Others.{no-comparison}
use Rattle.cap_take.proofs.heads.take_comparison.Goals as goal

pub returns-in_default : goal.returns-in_default
returns-in_default c = no-comparison c.args.state.now c.args.taking c.args.comparison.now (remaining_view c.args.rest.now) c.args.ledger.now c.in_default.not-Fact
