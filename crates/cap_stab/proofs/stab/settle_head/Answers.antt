use Rattle.cap_prog.specs.Views.{program_view}
use Rattle.cap_goal.specs.Views.{tasks_view}
use Rattle.cap_stab.specs.Heads.{numbers_seen}
use Rattle.cap_stab.proofs.Headed.{other_head}
use Rattle.cap_stab.proofs.stab.settle_head.Goals as goal

pub returns-in-None : goal.returns-in-None
returns-in-None c =
    let a = c.args in
    other_head (program_view a.program.now) a.state.now (numbers_seen a.list) a.rest (tasks_view a.behind.now) a.ledger.now c.in-None.is
