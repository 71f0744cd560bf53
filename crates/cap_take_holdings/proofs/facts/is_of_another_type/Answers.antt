use Rattle.cap_take_holdings.proofs.Places.{other-one, other-none}
use Rattle.cap_take_holdings.proofs.facts.is_of_another_type.Goals as goal

pub returns-then-same : goal.returns-then-same
returns-then-same c = other-one c.same.result _ _ _ _ c.fact.view_is c.other.view_is c.same.ensures c.if-same.true

pub returns-else-same : goal.returns-else-same
returns-else-same c = other-none c.same.result _ _ _ _ c.fact.view_is c.other.view_is c.same.ensures c.if-same.false
