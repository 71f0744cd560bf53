use Rattle.std.proofs.Common.{arith, sym, subst}
use Rattle.cap_galg.specs.Views.{algebra_view}
use Rattle.cap_galg.specs.Placed.{HasPassed}
use Rattle.cap_galg.specs.Laws.Atoms.{apart-first, apart-second}
use Rattle.cap_galg.proofs.algebra.Algebra.are_apart.Goals as goal

pub returns-in-First : goal.returns-in-First
returns-in-First c =
    let p = subst (HasPassed (algebra_view c.args.self.now) c.args.i c.args.j) c.in-First.is c.pass.ensures in
    sym (apart-second (algebra_view c.args.self.now) c.args.i c.args.j (omega (arith, p.1)))

pub returns-in-Second : goal.returns-in-Second
returns-in-Second c =
    let p = subst (HasPassed (algebra_view c.args.self.now) c.args.i c.args.j) c.in-Second.is c.pass.ensures in
    sym (apart-first (algebra_view c.args.self.now) c.args.i c.args.j (omega (arith, p.1)))

pub returns-in-Neither : goal.returns-in-Neither
returns-in-Neither c =
    let p = subst (HasPassed (algebra_view c.args.self.now) c.args.i c.args.j) c.in-Neither.is c.pass.ensures in
    sym (apart-first (algebra_view c.args.self.now) c.args.i c.args.j (omega (arith, p.0)))
