use Rattle.cap_rules_steps.proofs.Walking.{weaker}
use Rattle.cap_open.proofs.opening.followed.Goals as goal

pub returns-in-Enter : goal.returns-in-Enter
returns-in-Enter c = rw c.in-Enter.is c.enter_head.ensures

pub returns-in-Act : goal.returns-in-Act
returns-in-Act c = rw c.in-Act.is c.act_head.ensures

pub returns-in-Pick : goal.returns-in-Pick
returns-in-Pick c = rw c.in-Pick.is (weaker _ _ _ c.pick_head.ensures)

pub returns-in-Shift : goal.returns-in-Shift
returns-in-Shift c = rw c.in-Shift.is c.shift_head.ensures
