use Rattle.cap_take_give.proofs.Slots.{name-stays, name-new}
use Rattle.cap_take_give.proofs.giving.name_as.Goals as goal

pub returns-then-is_bound : goal.returns-then-is_bound
returns-then-is_bound c = name-stays c.args.state.now c.args.env c.args.sort c.args.name _ _ c.is_bound.ensures c.if-is_bound.true

pub returns : goal.returns
returns c = name-new c.args.state.now c.args.env c.args.sort c.args.name _ _ _ c.is_bound.ensures c.if-is_bound.false c.name_fresh.ensures
