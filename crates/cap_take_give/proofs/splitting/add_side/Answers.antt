use Rattle.cap_take_give.proofs.splitting.add_side.Goals as goal

pub returns : goal.returns
returns c = rw c.in_ok-tasks.ensures at c.add_goal.ensures
