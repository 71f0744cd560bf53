use Rattle.std.proofs.Common.{◌<◌, length, arith}
use Rattle.std.proofs.lemmas.Result.{err_from_is_err_and}
use Rattle.cap_fm_spec.specs.Solving.{solved}
use Rattle.cap_fm.proofs.Splits.{solved-err, solved-fails, solved-leaf, solved-goes, loop-fails, loop-found, loop-goes, splits-end}
use Rattle.cap_fm.proofs.solver.searched.Goals as goal

pub returns-in_err-leaf : goal.returns-in_err-leaf
returns-in_err-leaf c = solved-err c.from_residual.result (solved c.args.rows.now) c.in_err-leaf.field-0.0 (err_from_is_err_and c.from_residual.result c.from_residual.ensures.1) (solved-fails c.args.rows.now c.in_err-leaf.field-0.0 c.in_err-leaf.ensures)

pub returns-in-Some : goal.returns-in-Some
returns-in-Some c = solved-leaf c.args.rows.now c.in-Some.leaf (rw c.in-Some.is at c.in_ok-leaf.ensures)

pub loop-place-init : goal.loop-place-init
loop-place-init c = solved-goes c.args.rows.now (rw c.in_default.is at c.in_ok-leaf.ensures)

pub returns-in_err-cert : goal.returns-in_err-cert
returns-in_err-cert c =
    let l : c.loop-place.place < length c.args.rows.now = omega arith in
    solved-err c.from_residual-in_err-cert.result (solved c.args.rows.now) c.in_err-cert.field-0.0 (err_from_is_err_and c.from_residual-in_err-cert.result c.from_residual-in_err-cert.ensures.1) (loop-fails c.args.rows.now c.loop-place.place (solved c.args.rows.now) c.in_err-cert.field-0.0 l c.loop-place.invariant (λ r e. c.in_err-cert.ensures r e))

pub returns-in-Some-2 : goal.returns-in-Some-2
returns-in-Some-2 c =
    let l : c.loop-place.place < length c.args.rows.now = omega arith in
    loop-found c.args.rows.now c.loop-place.place c.in-Some-2.cert (solved c.args.rows.now) l c.loop-place.invariant (λ r e. rw c.in-Some-2.is at (c.in_ok-cert.ensures r e))

pub loop-place-preserved : goal.loop-place-preserved
loop-place-preserved c =
    let l : c.loop-place.place < length c.args.rows.now = omega arith in
    loop-goes c.args.rows.now c.loop-place.place (solved c.args.rows.now) l c.loop-place.invariant (λ r e. rw c.in_default-2.is at (c.in_ok-cert.ensures r e))

pub returns : goal.returns
returns c = splits-end c.args.rows.now c.loop-place.place _ (omega arith) c.loop-place.invariant
