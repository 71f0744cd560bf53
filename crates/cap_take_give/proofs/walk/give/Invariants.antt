use Rattle.cap_prog.specs.Program.{none}
use Rattle.cap_prog.specs.Views.{program_view}
use Rattle.cap_goal.specs.Views.{items_in, tasks_view}
use Rattle.cap_rules.specs.Giving.{give}
use Rattle.cap_rules_steps.proofs.Walking.{Leads}
use Rattle.cap_take_give.proofs.Walked.{count}
use Rattle.cap_take_give.proofs.walk.give.Given as goal

abbrev pub invariant-loop-left : goal.invariant-loop-left
invariant-loop-left l = Leads (give (program_view l.program) l.given l.env l.at (tasks_view l.behind) (items_in l.left.lists.items none)) (give (program_view l.program) l.fn.state l.env l.at (tasks_view l.behind) (items_in l.items.lists.items none))

abbrev pub decreases-loop-left : goal.decreases-loop-left
decreases-loop-left l = count (items_in l.left.lists.items none)
