use Rattle.std.proofs.Common.{arith}
use Rattle.std.proofs.lemmas.Result.{err_from_is_err_and}
use Rattle.cap_take_holdings.proofs.Rowing.{rows-next, rows-fail, rows-short, rows-end}
use Rattle.cap_take_holdings.proofs.facts.with_equalities.Goals as goal

pub returns-then-place-right : goal.returns-then-place-right
returns-then-place-right c = rows-short _ c.args.left.now c.args.right.now c.loop-place.place _ (omega arith) c.loop-place.invariant

pub returns-in_err-with_comparison : goal.returns-in_err-with_comparison
returns-in_err-with_comparison c =
    let p = err_from_is_err_and c.from_residual.result c.from_residual.ensures.1 in
    rw (p.1, p.2) (rows-fail _ c.args.left.now c.args.right.now c.loop-place.place _ _ _ _ (omega arith) c.index-left-place.is (omega arith) c.index-right-place.is c.in_err-with_comparison.ensures c.loop-place.invariant)

pub loop-place-preserved : goal.loop-place-preserved
loop-place-preserved c = rows-next _ _ c.args.left.now c.args.right.now c.loop-place.place _ _ _ (omega arith) c.index-left-place.is (omega arith) c.index-right-place.is c.in_ok-with_comparison.ensures c.loop-place.invariant

pub returns : goal.returns
returns c = rows-end _ c.args.left.now c.args.right.now c.loop-place.place _ (omega arith) c.loop-place.invariant
