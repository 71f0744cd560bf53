use Rattle.std.proofs.Common.{rules}
use Rattle.std.proofs.lemmas.Int.{to_z-of_z}
use Rattle.std.proofs.lemmas.Result.{err_from_is_err_and}
use mir.Val.{SFits}
use mir.Syntax.{w128}
use Rattle.cap_lin.proofs.Combining.{left-wide, right-wide, both-narrow}
use Rattle.cap_lin.proofs.term.long_combined.Goals as goal

pub returns-in_err-left : goal.returns-in_err-left
returns-in_err-left c =
    let p = err_from_is_err_and c.from_residual.result c.from_residual.ensures.1 in
    rw (p.1, p.2) (left-wide _ _ _ _ _ _ _ (to_z-of_z _ _ c.ranges.a) (to_z-of_z _ _ c.ranges.left) c.in_err-left.ensures.exact)

pub returns-in_err-right : goal.returns-in_err-right
returns-in_err-right c =
    let p = err_from_is_err_and c.from_residual-in_err-right.result c.from_residual-in_err-right.ensures.1 in
    rw (p.1, p.2) (right-wide _ _ _ _ _ _ _ _ _ (to_z-of_z _ _ c.ranges.a) (to_z-of_z _ _ c.ranges.left) (to_z-of_z _ _ c.ranges.b) (to_z-of_z _ _ c.ranges.right) c.in_ok-left.ensures.exact.0 c.in_err-right.ensures.exact)

pub returns : goal.returns
returns c =
    let f : SFits w128 c.in_ok-left.left = search rules in
    let g : SFits w128 c.in_ok-right.right = search rules in
    both-narrow _ _ _ _ _ _ _ _ _ _ _ _ _ (to_z-of_z _ _ c.ranges.a) (to_z-of_z _ _ c.ranges.left) (to_z-of_z _ _ c.ranges.b) (to_z-of_z _ _ c.ranges.right) c.in_ok-left.ensures.exact.0 c.in_ok-right.ensures.exact.0 c.in_ok-left.ensures.exact.1 c.in_ok-right.ensures.exact.1 (to_z-of_z _ _ f) (to_z-of_z _ _ g) c.sum.ensures.exact
