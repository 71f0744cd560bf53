use Rattle.std.proofs.Common.{rules}
use Rattle.cap_take_items.proofs.Remains.{item-before}
use Rattle.cap_take_items.proofs.remaining.items_with.Goals as goal

pub returns : goal.returns
returns c = item-before c.args.item.now c.args.rest.now.items.lists.items c.push.new.self.items c.from_ref.result (search rules) (search rules)
