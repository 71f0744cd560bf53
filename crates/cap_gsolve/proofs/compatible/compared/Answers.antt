use Rattle.std.proofs.lemmas.Result.{err_from_is_err_and}
use Rattle.cap_galg.specs.Views.{algebra_view}
use Rattle.cap_gsolve.proofs.Wanted.{never-all, error-all, rows-all}
use Rattle.cap_gsolve.proofs.compatible.compared.Goals as goal

pub returns-then-clashes_some : goal.returns-then-clashes_some
returns-then-clashes_some c = never-all (algebra_view c.args.algebra.now) c.args.pieces.now c.args.region.now c.args.kind c.args.wanted.now c.clashes_some.result c.clashes_some.ensures c.if-clashes_some.true

pub returns-in_err-push_all : goal.returns-in_err-push_all
returns-in_err-push_all c =
    let p = err_from_is_err_and c.from_residual.result c.from_residual.ensures.1 in
    rw (p.1, p.2) (error-all (algebra_view c.args.algebra.now) c.args.pieces.now c.args.region.now c.args.kind c.args.wanted.now c.clashes_some.result _ c.clashes_some.ensures c.if-clashes_some.false c.in_err-push_all.ensures)

pub returns : goal.returns
returns c =
    let m = c.in_ok-push_all.ensures in
    rows-all (algebra_view c.args.algebra.now) c.args.pieces.now c.args.region.now c.args.kind c.args.wanted.now c.clashes_some.result c.new-rows.result.items c.push_all.new.rows.items c.clashes_some.ensures c.if-clashes_some.false c.new-rows.ensures.items m.0 m.1
