use Rattle.cap_take_items.proofs.Remains.{two-goals}
use Rattle.cap_take.proofs.comparing.sides.Goals as goal

pub returns : goal.returns
returns c = two-goals _ _ _ _ _ c.new-goals.ensures.items c.in_ok-add_side.ensures c.in_ok-add_side-2.ensures
