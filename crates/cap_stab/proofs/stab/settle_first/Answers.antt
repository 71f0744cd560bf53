use Rattle.cap_prog.specs.Views.{program_view}
use Rattle.cap_stab.specs.Heads.{numbers_seen}
use Rattle.cap_stab.proofs.Headed.{no_tasks}
use Rattle.cap_stab.proofs.stab.settle_first.Goals as goal

pub returns-in-empty : goal.returns-in-empty
returns-in-empty c =
    let a = c.args in
    no_tasks (program_view a.program.now) a.state.now (numbers_seen a.list) a.tasks.now a.ledger.now c.in-empty.len_below
