use Rattle.cap_prog.specs.Views.{program_view}
use Rattle.cap_goal.specs.Views.{choice_view}
use Rattle.cap_pure.proofs.Headed.{no_tasks}
use Rattle.cap_pure.proofs.pure.at_first.Goals as goal

pub returns-in-empty : goal.returns-in-empty
returns-in-empty c = no_tasks (program_view c.args.program.now) c.args.state.now (choice_view c.args.choice.now) c.args.tasks.now c.args.ledger.now c.in-empty.len_below
