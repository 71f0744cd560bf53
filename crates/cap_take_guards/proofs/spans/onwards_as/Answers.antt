use Rattle.std.proofs.Common.{arith}
use Rattle.cap_rules_steps.proofs.Walking.{done_as}
use Rattle.cap_take_guards.proofs.Ways.{no-onwards-as}
use Rattle.cap_take_guards.proofs.spans.onwards_as.Goals as goal

pub returns-in_ok-all_named-in-0 : goal.returns-in_ok-all_named-in-0
returns-in_ok-all_named-in-0 c = rw c.in-0.is (done_as _ _ c.in_ok-all_named-in-0.ensures)

pub returns-in_default : goal.returns-in_default
returns-in_default c =
    let a = c.args in
    no-onwards-as a.state.now a.env.now a.start.now a.name a.way (λ e. omega arith)
