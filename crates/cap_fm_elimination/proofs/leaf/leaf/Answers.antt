use Rattle.std.proofs.Common.{rules, ◌++◌}
use Rattle.std.proofs.lemmas.Int.{to_z-of_z}
use Rattle.std.proofs.lemmas.Result.{err_from_is_err_and}
use mir.Val.{SFits}
use mir.Syntax.{w128}
use Rattle.cap_fm_elimination.specs.Views.{history_view, false_view}
use Rattle.cap_fm_elimination.proofs.Leaves.{earlier, made-below, way-fails, turn-fails, leaf-answers}
use Rattle.cap_fm_elimination.proofs.leaf.leaf.Goals as goal

pub multipliers-requires-clause-history : goal.multipliers-requires-clause-history
multipliers-requires-clause-history c = earlier _ _ _ c.requires.history

pub returns-in_err-multipliers : goal.returns-in_err-multipliers
returns-in_err-multipliers c =
    let p = err_from_is_err_and c.from_residual.result c.from_residual.ensures.1 in
    rw (p.1, p.2) (way-fails (c.args.rows.now ++ c.args.more.now) (history_view c.args.history.now) (false_view c.args.row) _ c.in_err-multipliers.ensures)

pub returns-in_err-multipliers-2 : goal.returns-in_err-multipliers-2
returns-in_err-multipliers-2 c =
    let f : SFits w128 c.args.row.constant = search rules in
    let m = c.in_ok-multipliers.ensures in
    let p = err_from_is_err_and c.from_residual-in_err-multipliers-2.result c.from_residual-in_err-multipliers-2.ensures.1 in
    rw (p.1, p.2) (turn-fails (c.args.rows.now ++ c.args.more.now) (history_view c.args.history.now) (false_view c.args.row) _ _ _ m.0 (to_z-of_z _ _ f) m.1 c.in_err-multipliers-2.ensures)

pub checked-requires : goal.checked-requires
checked-requires c =
    let f : SFits w128 c.args.row.constant = search rules in
    made-below _ _ (false_view c.args.row) _ _ _ c.requires.history (record { constant = to_z-of_z _ _ f; multipliers_are = c.in_ok-multipliers.ensures.1; turned_are = c.in_ok-multipliers-2.ensures.1 })

pub returns : goal.returns
returns c =
    let f : SFits w128 c.args.row.constant = search rules in
    leaf-answers _ (λ m. m) (c.args.rows.now ++ c.args.more.now) (history_view c.args.history.now) (false_view c.args.row) _ _ _ c.in_ok-multipliers.ensures.0 c.in_ok-multipliers-2.ensures.0 (record { constant = to_z-of_z _ _ f; multipliers_are = c.in_ok-multipliers.ensures.1; turned_are = c.in_ok-multipliers-2.ensures.1 }) c.checked.ensures
