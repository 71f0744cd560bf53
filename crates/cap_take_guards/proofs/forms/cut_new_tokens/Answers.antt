use Rattle.cap_take_guards.proofs.Ways.{no-new-tokens, no-new-tokens-as}
use Rattle.cap_take_guards.proofs.forms.cut_new_tokens.Goals as goal

pub returns-in-OpenTo : goal.returns-in-OpenTo
returns-in-OpenTo c =
    let a = c.args in
    rw c.in-OpenTo.is (no-new-tokens-as a.state.now a.env.now a.count.now _ a.way a.ledger.now)

pub returns-in-Stuck : goal.returns-in-Stuck
returns-in-Stuck c =
    let a = c.args in
    rw c.in-Stuck.is (no-new-tokens a.state.now a.env.now a.count.now a.way a.ledger.now)
