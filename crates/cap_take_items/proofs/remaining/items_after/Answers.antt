use Rattle.std.proofs.Common.{rules}
use Rattle.cap_take_items.proofs.Remains.{items-before}
use Rattle.cap_take_items.proofs.remaining.items_after.Goals as goal

pub returns : goal.returns
returns c = items-before c.args.assertion.now c.args.rest.now.items.lists.items c.push.new.self.items c.as_slice.result (search rules) (search rules)
