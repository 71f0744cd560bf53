use Rattle.cap_take_guards.proofs.Ways.{no-index}
use Rattle.cap_take_guards.proofs.spans.cut_index.Goals as goal

pub returns-in-Stuck : goal.returns-in-Stuck
returns-in-Stuck c =
    let a = c.args in
    rw c.in-Stuck.is (no-index a.state.now a.env.now a.start.now a.end.now a.way a.ledger.now)
