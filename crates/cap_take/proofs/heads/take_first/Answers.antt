use Rattle.cap_prog.specs.Views.{program_view}
use Rattle.cap_take.proofs.Others.{no-tasks}
use Rattle.cap_take.proofs.heads.take_first.Goals as goal

pub returns-in-empty : goal.returns-in-empty
returns-in-empty c =
    let a = c.args in
    no-tasks (program_view a.program.now) a.state.now a.taking a.tasks.now a.ledger.now c.in-empty.len_below
