use Rattle.cap_open.proofs.Heading.{no_tasks}
use Rattle.cap_open.proofs.heads.ahead_of.Goals as goal

pub returns-in-empty : goal.returns-in-empty
returns-in-empty c = no_tasks c.args.tasks.now c.in-empty.len_below
