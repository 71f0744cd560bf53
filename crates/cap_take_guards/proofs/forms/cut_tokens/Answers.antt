use Rattle.cap_take_guards.proofs.Ways.{no-tokens}
use Rattle.cap_take_guards.proofs.forms.cut_tokens.Goals as goal

pub returns-in-Stuck : goal.returns-in-Stuck
returns-in-Stuck c =
    let a = c.args in
    rw c.in-Stuck.is (no-tokens a.state.now a.env.now a.count.now a.way a.ledger.now)
