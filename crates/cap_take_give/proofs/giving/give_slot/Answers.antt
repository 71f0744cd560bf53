use Rattle.cap_take_give.proofs.Slots.{slot-fresh}
use Rattle.cap_take_give.proofs.giving.give_slot.Goals as goal

pub returns-in-Any : goal.returns-in-Any
returns-in-Any c = rw c.in-Any.is (slot-fresh c.args.state.now c.with_sort.new.state c.args.env c.args.sort c.with_sort.result c.with_sort.ensures.makes c.with_sort.ensures.fresh)

pub returns-in-Is : goal.returns-in-Is
returns-in-Is c = rw c.in-Is.is c.give_term.ensures
