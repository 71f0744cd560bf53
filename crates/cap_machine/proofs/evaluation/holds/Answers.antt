use Rattle.std.proofs.Common.{rules, refl}
use Rattle.std.proofs.lemmas.Result.{err_from_is_err_and}
use mir.Val.{SFits}
use mir.Syntax.{w128}
use Rattle.std.proofs.lemmas.Int.{to_z-of_z}
use Rattle.cap_machine.proofs.ValueLemmas.{explained_front, explained_back, narrow_both}
use Rattle.cap_machine.proofs.evaluation.holds.Goals as goal

pub returns-in_err-left : goal.returns-in_err-left
returns-in_err-left c =
    let p = err_from_is_err_and c.from_residual.result c.from_residual.ensures.1 in
    rw (p.1, p.2) (explained_front _ _ _ c.in_err-left.ensures)

pub returns-in_err-right : goal.returns-in_err-right
returns-in_err-right c =
    let p = err_from_is_err_and c.from_residual-in_err-right.result c.from_residual-in_err-right.ensures.1 in
    rw (p.1, p.2) (explained_back _ _ _ c.in_ok-left.ensures.0 c.in_err-right.ensures)

pub returns : goal.returns
returns c =
    let f : SFits w128 c.in_ok-left.left = search rules in
    let g : SFits w128 c.in_ok-right.right = search rules in
    (narrow_both _ _ c.in_ok-left.ensures.0 c.in_ok-right.ensures.0, rw (c.compares.ensures, to_z-of_z w128 _ f, to_z-of_z w128 _ g, c.in_ok-left.ensures.1, c.in_ok-right.ensures.1) refl)
