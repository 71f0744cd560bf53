use Rattle.cap_lin.specs.Laws.Sameness.{same_term-only}
use Rattle.cap_gsolve.proofs.Terms.{joined, refused}
use Rattle.cap_gsolve.proofs.piece.Piece.is_of.Goals as goal

pub returns-then-same : goal.returns-then-same
returns-then-same c = joined c.same.result _ _ (same_term-only c.same.result c.args.self.now.region c.args.region.now c.same.ensures) c.if-same.true

pub returns-else-same : goal.returns-else-same
returns-else-same c = refused c.same.result _ _ (same_term-only c.same.result c.args.self.now.region c.args.region.now c.same.ensures) c.if-same.false
