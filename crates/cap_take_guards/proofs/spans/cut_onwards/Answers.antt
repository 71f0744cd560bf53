use Rattle.cap_take_guards.proofs.Ways.{no-onwards}
use Rattle.cap_take_guards.proofs.spans.cut_onwards.Goals as goal

pub returns-in-Stuck : goal.returns-in-Stuck
returns-in-Stuck c =
    let a = c.args in
    rw c.in-Stuck.is (no-onwards a.state.now a.env.now a.start.now a.way a.ledger.now)
