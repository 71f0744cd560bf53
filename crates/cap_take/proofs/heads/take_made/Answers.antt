use Rattle.cap_prog.specs.Views.{program_view}
use Rattle.cap_goal.specs.Views.{tasks_view}
use Rattle.cap_take.proofs.Others.{not-stated}
use Rattle.cap_take.proofs.heads.take_made.Goals as goal

pub returns-in_default : goal.returns-in_default
returns-in_default c =
    let a = c.args in
    not-stated (program_view a.program.now) a.state.now a.taking a.kind a.case a.env a.created.now (tasks_view a.behind.now) a.ledger.now c.in_default.not-Made
