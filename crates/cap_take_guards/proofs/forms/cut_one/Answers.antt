use Rattle.std.proofs.Common.{arith}
use Rattle.cap_rules_steps.proofs.Walking.{done_as}
use Rattle.cap_take_guards.proofs.Ways.{no-one}
use Rattle.cap_take_guards.proofs.forms.cut_one.Goals as goal

pub returns-in_ok-leaving-in-0 : goal.returns-in_ok-leaving-in-0
returns-in_ok-leaving-in-0 c = rw c.in-0.is (done_as _ _ c.in_ok-leaving-in-0.ensures)

pub returns-in_default : goal.returns-in_default
returns-in_default c = no-one c.args.state.now c.args.env.now c.args.way (λ e. omega arith)
