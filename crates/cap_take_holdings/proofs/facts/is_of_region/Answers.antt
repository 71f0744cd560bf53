use Rattle.cap_take_holdings.proofs.Places.{of-one, of-none}
use Rattle.cap_take_holdings.proofs.facts.is_of_region.Goals as goal

pub returns-then-same : goal.returns-then-same
returns-then-same c = of-one c.same.result _ _ _ _ c.fact.view_is c.other.view_is c.same.ensures c.if-same.true

pub returns-else-same : goal.returns-else-same
returns-else-same c = of-none c.same.result _ _ _ _ c.fact.view_is c.other.view_is c.same.ensures c.if-same.false
