use Rattle.std.proofs.Common.{◌++◌}
use Rattle.std.proofs.lemmas.Result.{err_from_is_err_and}
use Rattle.cap_fm_spec.specs.Solving.{refuted}
use Rattle.cap_fm_elimination.specs.Views.{stage_view, false_view}
use Rattle.cap_fm_elimination.proofs.Wholes.{logged-err, code-explains, code-none, code-some, code-wide}
use Rattle.cap_fm_elimination.proofs.eliminate.refuted_within.Goals as goal

pub returns-in_err-eliminated : goal.returns-in_err-eliminated
returns-in_err-eliminated c = logged-err c.from_residual-in_err-eliminated.result (refuted (c.args.rows.now ++ c.args.more.now)) c.in_err-eliminated.field-0.0 (err_from_is_err_and c.from_residual-in_err-eliminated.result c.from_residual-in_err-eliminated.ensures.1) (code-explains (c.args.rows.now ++ c.args.more.now) (stage_view c.in_ok-stage.stage) c.in_err-eliminated.field-0.0 c.in_ok-stage.ensures.view (c.in_err-eliminated.ensures (c.in_ok-stage.ensures.fits _)))

pub returns-in-Rows : goal.returns-in-Rows
returns-in-Rows c =
    let a = rw c.in-Rows.is at (c.in_ok-eliminated.ensures (c.in_ok-stage.ensures.fits _)) in
    code-none (c.args.rows.now ++ c.args.more.now) (stage_view c.in_ok-stage.stage) _ _ c.in_ok-stage.ensures.view a.0

pub returns-in_err-leaf-in-Contradiction : goal.returns-in_err-leaf-in-Contradiction
returns-in_err-leaf-in-Contradiction c =
    let a = rw c.in-Contradiction.is at (c.in_ok-eliminated.ensures (c.in_ok-stage.ensures.fits _)) in
    logged-err c.from_residual-in_err-leaf-in-Contradiction.result (refuted (c.args.rows.now ++ c.args.more.now)) c.in_err-leaf-in-Contradiction.field-0.0 (err_from_is_err_and c.from_residual-in_err-leaf-in-Contradiction.result c.from_residual-in_err-leaf-in-Contradiction.ensures.1) (code-wide (c.args.rows.now ++ c.args.more.now) (stage_view c.in_ok-stage.stage) (false_view c.in-Contradiction.row) c.eliminated.new.stage c.history.result.now c.in_err-leaf-in-Contradiction.field-0.0 c.in_ok-stage.ensures.view c.history.ensures a.0 c.in_err-leaf-in-Contradiction.ensures)

pub returns : goal.returns
returns c =
    let a = rw c.in-Contradiction.is at (c.in_ok-eliminated.ensures (c.in_ok-stage.ensures.fits _)) in
    code-some (c.args.rows.now ++ c.args.more.now) (stage_view c.in_ok-stage.stage) (false_view c.in-Contradiction.row) c.eliminated.new.stage c.history.result.now c.in_ok-leaf-in-Contradiction.leaf c.in_ok-stage.ensures.view c.history.ensures a.0 c.in_ok-leaf-in-Contradiction.ensures
