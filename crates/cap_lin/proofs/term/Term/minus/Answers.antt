use Rattle.std.proofs.lemmas.Result.{err_from_is_err_and}
use Rattle.cap_lin.specs.Linear.{plus}
use Rattle.cap_lin.specs.Steps.{plus_steps}
use Rattle.cap_lin.specs.Exact.{IsExact}
use Rattle.cap_lin.proofs.Terms.{minus-first, minus-after}
use Rattle.cap_lin.proofs.term.Term.minus.Goals as goal

pub returns-in_err-negative : goal.returns-in_err-negative
returns-in_err-negative c =
    let p = err_from_is_err_and c.from_residual.result c.from_residual.ensures.1 in
    rw (p.1, p.2) (minus-first _ _ _ c.in_err-negative.ensures)

pub returns : goal.returns
returns c =
    let m = c.in_ok-negative.ensures in
    let a : IsExact c.add.result (plus_steps c.args.self.now c.in_ok-negative.negative) (plus c.args.self.now c.in_ok-negative.negative) = c.add.ensures.exact in
    minus-after c.add.result _ _ m.0 (rw m.1 at a)
