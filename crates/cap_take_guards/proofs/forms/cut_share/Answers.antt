use Rattle.cap_take_guards.proofs.Ways.{no-share}
use Rattle.cap_take_guards.proofs.forms.cut_share.Goals as goal

pub returns-in-Stuck : goal.returns-in-Stuck
returns-in-Stuck c =
    let a = c.args in
    rw c.in-Stuck.is (no-share a.state.now a.env.now a.amount.now a.way a.ledger.now)
