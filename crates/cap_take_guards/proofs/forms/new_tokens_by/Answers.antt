use Rattle.std.proofs.Common.{arith}
use Rattle.cap_take_guards.proofs.Ways.{no-new-tokens-by}
use Rattle.cap_take_guards.proofs.forms.new_tokens_by.Goals as goal

pub returns-in_default : goal.returns-in_default
returns-in_default c =
    let a = c.args in
    no-new-tokens-by a.state.now a.env.now a.count.now a.term.now a.way a.ledger.now (λ e. omega arith)
