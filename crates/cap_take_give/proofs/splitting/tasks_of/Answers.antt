use Rattle.cap_take_items.proofs.Remains.{task-before}
use Rattle.cap_take_give.proofs.splitting.tasks_of.Goals as goal

pub returns : goal.returns
returns c = task-before c.args.behind.now.tasks.now c.in_ok-tasks.tasks.items c.push.new.self.items _ c.in_ok-push.ensures.items c.in_ok-tasks.ensures
