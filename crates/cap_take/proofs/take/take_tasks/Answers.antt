use Rattle.cap_prog.specs.Views.{program_view}
use Rattle.cap_goal.specs.Views.{tasks_view}
use Rattle.cap_take.proofs.Others.{no-taking}
use Rattle.cap_take.proofs.take.take_tasks.Goals as goal

pub returns-in-None : goal.returns-in-None
returns-in-None c =
    let a = c.args in
    no-taking (program_view a.program.now) a.state.now a.taking (tasks_view a.tasks.now) a.ledger.now c.in-None.is
