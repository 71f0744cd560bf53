use Rattle.std.proofs.Common.{arith}
use Rattle.cap_take_guards.proofs.Ways.{no-share-as}
use Rattle.cap_take_guards.proofs.forms.share_as.Goals as goal

pub returns-in_default : goal.returns-in_default
returns-in_default c =
    let a = c.args in
    no-share-as a.state.now a.env.now a.amount.now a.name a.way (λ e. omega arith)
