use Rattle.std.proofs.Common.{rules}
use Rattle.std.proofs.lemmas.Int.{to_z-of_z}
use Rattle.std.proofs.lemmas.Result.{err_from_is_err_and}
use mir.Val.{SFits}
use mir.Syntax.{w128}
use Rattle.cap_owners_values.proofs.Sums.{whole_first, whole_stops}
use Rattle.cap_owners_values.proofs.Tracing.{traces_same}
use Rattle.cap_owners_values.proofs.values.multiple_of_whole.Goals as goal

pub returns-in_err-number : goal.returns-in_err-number
returns-in_err-number c =
    let p = err_from_is_err_and c.from_residual.result c.from_residual.ensures.1 in
    rw (p.1, p.2) (whole_stops _ c.args.coefficient c.args.number _ _ (to_z-of_z _ _ c.ranges.coefficient) (to_z-of_z _ _ c.ranges.number) c.in_err-number.ensures)

pub returns : goal.returns
returns c =
    let u : SFits w128 c.in_ok-number.number = search rules in
    traces_same _ _ _ _ (whole_first c.args.coefficient c.args.number _ _ _ _ (to_z-of_z _ _ c.ranges.coefficient) (to_z-of_z _ _ c.ranges.number) c.in_ok-number.ensures (to_z-of_z _ _ u)) c.product-2.ensures
