use Rattle.cap_farkas.proofs.Behind.{none-part, past-part}
use Rattle.cap_farkas.proofs.system.part_at.Goals as goal

pub returns-in-None : goal.returns-in-None
returns-in-None c = none-part _ _ _ _ c.in-None.is c.if-number-rows.false

pub returns-else-number-rows-2 : goal.returns-else-number-rows-2
returns-else-number-rows-2 c = past-part _ _ _ _ _ c.in-Some.is c.if-number-rows.false c.if-number-rows-2.false
