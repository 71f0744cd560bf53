use Rattle.cap_prog.specs.Program.{none}
use Rattle.cap_prog.specs.Views.{program_view}
use Rattle.cap_goal.specs.Views.{items_in, tasks_view}
use Rattle.cap_take.proofs.Others.{no-give}
use Rattle.cap_take.proofs.heads.take_given.Goals as goal

pub returns-in_default : goal.returns-in_default
returns-in_default c =
    let a = c.args in
    no-give (program_view a.program.now) a.state.now a.taking (items_in a.items.now.lists.items none) a.env a.at (tasks_view a.behind.now) c.in_default.not-Give
