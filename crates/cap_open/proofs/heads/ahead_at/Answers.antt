use Rattle.cap_goal.specs.Views.{task_view}
use Rattle.cap_open.proofs.Heading.{no_run}
use Rattle.cap_open.proofs.heads.ahead_at.Goals as goal

pub returns-in-None : goal.returns-in-None
returns-in-None c = no_run (task_view c.args.task.now) (rw c.in-None.is at c.run_of.ensures)
