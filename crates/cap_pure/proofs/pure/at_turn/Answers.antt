use Rattle.cap_goal.specs.Views.{tasks_view}
use Rattle.cap_pure.proofs.Others.{no-turning}
use Rattle.cap_pure.proofs.pure.at_turn.Goals as goal

pub returns-in_default : goal.returns-in_default
returns-in_default c = no-turning c.args.state.now c.args.head.now (tasks_view c.args.behind.now) c.in_default.not-Turn
