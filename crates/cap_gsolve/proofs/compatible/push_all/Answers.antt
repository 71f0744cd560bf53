use Rattle.std.proofs.Common.{◌<◌, ◌≤◌, length, arith}
use Rattle.std.proofs.lemmas.Result.{err_from_is_err_and}
use Rattle.cap_gsolve.proofs.Wanted.{stops, goes_on, adds, narrow, done}
use Rattle.cap_gsolve.proofs.compatible.push_all.Goals as goal

pub returns-in_err-push_one : goal.returns-in_err-push_one
returns-in_err-push_one c =
    let h : c.loop-one.one-index < length c.args.wanted.now = omega arith in
    let p = err_from_is_err_and c.from_residual.result c.from_residual.ensures.1 in
    rw (p.1, p.2) (stops c.args.pieces.now c.args.region.now c.args.kind _ _ c.one-item.result _ _ h c.one-item.is c.in_err-push_one.ensures c.loop-one.invariant.steps)

pub loop-one-preserved : goal.loop-one-preserved
loop-one-preserved c =
    let h : c.loop-one.one-index < length c.args.wanted.now = omega arith in
    let m = c.in_ok-push_one.ensures in
    record {
      steps = goes_on c.args.pieces.now c.args.region.now c.args.kind _ _ c.one-item.result _ h c.one-item.is m.0 c.loop-one.invariant.steps;
      rows = adds c.args.pieces.now c.args.region.now c.args.kind _ _ c.one-item.result _ _ _ h c.one-item.is m.1 c.loop-one.invariant.rows;
    }

pub returns : goal.returns
returns c =
    let h : length c.args.wanted.now ≤ c.loop-one.one-index = omega arith in
    (narrow _ _ _ _ _ _ h c.loop-one.invariant.steps, done _ _ _ _ _ _ _ h c.loop-one.invariant.rows)
