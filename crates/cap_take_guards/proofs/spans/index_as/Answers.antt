use Rattle.std.proofs.Common.{arith}
use Rattle.cap_take_guards.proofs.Ways.{no-index-as}
use Rattle.cap_take_guards.proofs.spans.index_as.Goals as goal

pub returns-in_default : goal.returns-in_default
returns-in_default c =
    let a = c.args in
    no-index-as a.state.now a.env.now a.start.now a.end.now a.name a.way a.ledger.now (λ e. omega arith)
