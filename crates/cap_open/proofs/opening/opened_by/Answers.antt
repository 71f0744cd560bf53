use Rattle.cap_prog.specs.Views.{program_view}
use Rattle.cap_goal.specs.Views.{tasks_view, choice_view}
use Rattle.cap_open.specs.Heads.{rule_in}
use Rattle.cap_open.proofs.Heading.{untaken}
use Rattle.cap_open.proofs.opening.opened_by.Goals as goal

pub returns-in-None : goal.returns-in-None
returns-in-None c =
    let a = c.args in
    untaken (program_view a.program.now) a.state.now a.marks.now (tasks_view a.tasks.now) (rule_in (choice_view a.choice.now)) a.ledger.now (rw c.in-None.is at c.rule_of.ensures)
