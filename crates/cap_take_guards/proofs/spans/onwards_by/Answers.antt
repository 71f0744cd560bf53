use Rattle.std.proofs.Common.{arith}
use Rattle.cap_take_guards.proofs.Ways.{no-onwards-by}
use Rattle.cap_take_guards.proofs.spans.onwards_by.Goals as goal

pub returns-in_default : goal.returns-in_default
returns-in_default c =
    let a = c.args in
    no-onwards-by a.state.now a.env.now a.start.now a.term.now a.way a.ledger.now (λ e. omega arith) (λ e. omega arith)
