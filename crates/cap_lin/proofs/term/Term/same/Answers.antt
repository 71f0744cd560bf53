use Rattle.cap_lin.specs.Laws.Sameness.{same_term-decides}
use Rattle.cap_lin.proofs.term.Term.same.Goals as goal

pub returns : goal.returns
returns c = rw c.eq.ensures (same_term-decides c.args.self.now c.args.other.now)
