use Rattle.cap_lin.proofs.Ascend.{without-ascends}
use Rattle.cap_lin.proofs.term.Term.without.Goals as goal

pub invariant_of-result : goal.invariant_of-result
invariant_of-result c = rw (c.in_ok-parts.ensures, c.deref.ensures) (without-ascends _ _ _ c.self.invariant)
