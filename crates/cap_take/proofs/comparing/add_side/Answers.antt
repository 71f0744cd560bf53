use Rattle.cap_take.proofs.comparing.add_side.Goals as goal

pub returns : goal.returns
returns c = rw c.in_ok-tasks.ensures at c.add_goal.ensures
