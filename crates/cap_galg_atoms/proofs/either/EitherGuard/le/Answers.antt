use Rattle.std.proofs.Common.{◌∙◌}
use Rattle.cap_galg_spec.proofs.Sides.{at_most-in-left, at_most-in-right}
use Rattle.cap_galg_atoms.proofs.either.EitherGuard.le.Goals as goal

pub returns-in-Left-other : goal.returns-in-Left-other
returns-in-Left-other g c =
    rw (c.in-Left.is, c.in-Left-other.is)
    (c.le.ensures ∙ at_most-in-left (g.A.Guard.element c.in-Left.x) (g.A.Guard.element c.in-Left-other.y) (g.met.A.Guard.lawful c.in-Left.x c.in-Left-other.y (rw (c.in-Left.is, c.in-Left-other.is) at c.requires)))

pub returns-in-Right-other-2 : goal.returns-in-Right-other-2
returns-in-Right-other-2 g c =
    rw (c.in-Right.is, c.in-Right-other-2.is)
    (c.le-in-Right-other-2.ensures ∙ at_most-in-right (g.B.Guard.element c.in-Right.x) (g.B.Guard.element c.in-Right-other-2.y) (g.met.B.Guard.lawful c.in-Right.x c.in-Right-other-2.y (rw (c.in-Right.is, c.in-Right-other-2.is) at c.requires)))
