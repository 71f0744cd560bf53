use Rattle.cap_farkas.proofs.Sides.{not_narrow, above_narrow}
use Rattle.cap_farkas.proofs.system.is_narrow.Goals as goal

pub returns-in-None : goal.returns-in-None
returns-in-None c = not_narrow _ _ _ c.in-None.ensures

pub returns-in-Above : goal.returns-in-Above
returns-in-Above c =
    let h = rw c.parts.ensures.parts at c.can_negate.ensures in
    let n = rw c.in-Above.is at c.in-Some.ensures.0 in
    rw c.in-Above.is (above_narrow _ _ _ n h)
