use Rattle.std.proofs.Common.{rules}
use Rattle.cap_goal.proofs.Tasks.{one-list}
use Rattle.cap_goal.proofs.task.items_of.Goals as goal

pub returns : goal.returns
returns c = one-list c.args.assertion.now c.push.new.self.items c.as_slice.result (search rules) (search rules)
